-- A contradiction beside a relation of its half-spaces: it loses a term, or the relation itself is one whose factors have one sign.
use Rattle.std.proofs.Common.{◌≡◌, ℕ, ◌<◌, ℤ, pos, neg_ℤ, ◌+ℤ◌, ◌-ℤ◌, ◌*ℤ◌, ◌≤ℤ◌, ◌<ℤ◌, List, [], ◌∷◌, ◌⊎◌, inl, inr, ⊎_elim, length, sym, ap, ◌∙◌, subst, arith}
use Rattle.std.specs.List.{AllByRecursion}
use Rattle.std.proofs.lemmas.Int.{ints}
use Rattle.rp_geometry.specs.Geometry.{HalfSpace}
use Rattle.rp_geometry.specs.searches.Certificate.{weighted_sum}
use Rattle.rp_geometry.specs.searches.Elimination.{half_spaces_of}
use Rattle.rp_algebra.proofs.IntLaws.{linear, signs, trichotomy_ℤ, nonneg_of_pos_ℤ}
use Rattle.rp_algebra.proofs.Numbers.{zero_difference}
use Rattle.rp_algebra.proofs.Reify.{by_ring_at, lt_by_ring, reify}
use Rattle.rp_convex.proofs.Combination.{Among, Contradiction}
use Rattle.rp_convex.proofs.Dropped.{among_among, AreNonnegative, HasZero, dropped}
use Rattle.rp_convex.proofs.Leaning.{Leaning, kept, leaned, turned, cut, weighted_sum-cut, half_spaces_of-cut, length-cut, weighted_sum-turned, kept-turned, KeepsPositive, LeansDown, Cut, tightest}

-- a contradiction with a relation of the same half-spaces whose factors are not all 0
pub record Related (offset : HalfSpace → ℤ) (hs : List HalfSpace) : Type 0 where
  pub es : List Leaning
  pub among : Among (half_spaces_of (kept es)) hs
  pub keeps : KeepsPositive es
  pub kept_a : weighted_sum (λ h. h.a) (kept es) ≡ pos 0
  pub kept_b : weighted_sum (λ h. h.b) (kept es) ≡ pos 0
  pub kept_c : weighted_sum (λ h. h.c) (kept es) ≡ pos 0
  pub negative : weighted_sum offset (kept es) <ℤ pos 0
  pub leaned_a : weighted_sum (λ h. h.a) (leaned es) ≡ pos 0
  pub leaned_b : weighted_sum (λ h. h.b) (leaned es) ≡ pos 0
  pub leaned_c : weighted_sum (λ h. h.c) (leaned es) ≡ pos 0
  pub some : AllByRecursion (λ e. e.lean ≡ pos 0) es → ⊥

-- a contradiction with fewer terms
abbrev pub Shorter : (HalfSpace → ℤ) → List HalfSpace → ℕ → Type 0
Shorter offset hs n = (m : Contradiction offset hs) × (length m.terms < n)

-- all factors of the relation are above 0
abbrev pub LeansAllUp : List Leaning → Type 0
LeansAllUp es = AllByRecursion (λ e. pos 0 <ℤ e.lean) es

-- all factors of the relation are below 0
abbrev pub LeansAllDown : List Leaning → Type 0
LeansAllDown es = AllByRecursion (λ e. e.lean <ℤ pos 0) es

-- ---- the relation turned round
-- the factors of the sum stay
pub keeps_turned : (es : List Leaning) → KeepsPositive es → KeepsPositive (turned es)
keeps_turned [] h = tt
keeps_turned (e ∷ es) h = (h.0, keeps_turned es h.1)

-- only factors 0 turn to 0
pub turned_zero : (es : List Leaning) → AllByRecursion (λ e. e.lean ≡ pos 0) (turned es) → AllByRecursion (λ e. e.lean ≡ pos 0) es
turned_zero [] h = tt
turned_zero (e ∷ es) h = (let z = h.0 in omega (arith, linear, z), turned_zero es h.1)

-- the same contradiction beside the turned relation
abbrev pub turn : {offset : HalfSpace → ℤ} {hs : List HalfSpace} → Related offset hs → Related offset hs
turn {offset} {hs} r =
    let same = sym (kept-turned r.es) in
    record {
      es = turned r.es;
      among = subst (λ ts. Among (half_spaces_of ts) hs) same r.among;
      keeps = keeps_turned r.es r.keeps;
      kept_a = subst (λ ts. weighted_sum (λ h. h.a) ts ≡ pos 0) same r.kept_a;
      kept_b = subst (λ ts. weighted_sum (λ h. h.b) ts ≡ pos 0) same r.kept_b;
      kept_c = subst (λ ts. weighted_sum (λ h. h.c) ts ≡ pos 0) same r.kept_c;
      negative = subst (λ ts. weighted_sum offset ts <ℤ pos 0) same r.negative;
      leaned_a = weighted_sum-turned (λ h. h.a) r.es ∙ ap neg_ℤ r.leaned_a;
      leaned_b = weighted_sum-turned (λ h. h.b) r.es ∙ ap neg_ℤ r.leaned_b;
      leaned_c = weighted_sum-turned (λ h. h.c) r.es ∙ ap neg_ℤ r.leaned_c;
      some = λ h. r.some (turned_zero r.es h);
    }

-- ---- a cut
module _ {offset : HalfSpace → ℤ} {hs : List HalfSpace} (r : Related offset hs) where
  -- a cut with a factor 0 is a shorter contradiction
  cut_off : (s k : ℤ) → AreNonnegative (cut s k r.es) → HasZero (cut s k r.es) → (s *ℤ weighted_sum offset (kept r.es) -ℤ k *ℤ weighted_sum offset (leaned r.es)) <ℤ pos 0 → Shorter offset hs (length (kept r.es))
  cut_off s k n z low =
      let d = dropped (cut s k r.es) n in (
        record {
          terms = d.terms;
          among = among_among d.among (subst (λ gs. Among gs hs) (half_spaces_of-cut s k r.es) r.among);
          positive = d.positive;
          a = d.sums (λ h. h.a) ∙ weighted_sum-cut s k (λ h. h.a) r.es ∙ zero_difference s k _ _ r.kept_a r.leaned_a;
          b = d.sums (λ h. h.b) ∙ weighted_sum-cut s k (λ h. h.b) r.es ∙ zero_difference s k _ _ r.kept_b r.leaned_b;
          c = d.sums (λ h. h.c) ∙ weighted_sum-cut s k (λ h. h.c) r.es ∙ zero_difference s k _ _ r.kept_c r.leaned_c;
          negative = subst (λ v. v <ℤ pos 0) (sym (d.sums offset ∙ weighted_sum-cut s k offset r.es)) low;
        },
        subst (λ n. length d.terms < n) (length-cut s k r.es) (d.fewer z),
      )

-- the offset's sum after a cut
cut_low : (s k x y : ℤ) → pos 0 <ℤ s → pos 0 <ℤ k → x <ℤ pos 0 → pos 0 ≤ℤ y → (s *ℤ x -ℤ k *ℤ y) <ℤ pos 0
cut_low s k x y sp kp xn yp =
    let n : pos 0 <ℤ neg_ℤ x = omega (arith, linear) in
    let c : pos 0 <ℤ (s *ℤ neg_ℤ x +ℤ k *ℤ y) = search signs in
    lt_by_ring (s ∷ k ∷ x ∷ y ∷ []) c (search reify depth 40 fits 100000) tt

-- the tightest cut is one, where the relation's offsets do not add up to less than 0
pub cut_tightest : {offset : HalfSpace → ℤ} {hs : List HalfSpace} (r : Related offset hs) → pos 0 ≤ℤ weighted_sum offset (leaned r.es) → Cut r.es → Shorter offset hs (length (kept r.es))
cut_tightest {offset} r high c =
    cut_off r c.s c.k c.nonnegative c.zero
    (cut_low c.s c.k (weighted_sum offset (kept r.es)) (weighted_sum offset (leaned r.es)) c.s_positive c.k_positive r.negative high)

-- ---- a relation that leans down, with a factor 0 or without
-- the negative of a factor that does not lean up
down_alone : (x y : ℤ) → y ≤ℤ pos 0 → pos 0 ≤ℤ (pos 0 *ℤ x -ℤ pos 1 *ℤ y)
down_alone x y h =
    let e : pos 0 *ℤ x -ℤ pos 1 *ℤ y ≡ neg_ℤ y = by_ring_at (x ∷ y ∷ []) (search reify depth 40 fits 100000) tt in
    omega (arith, linear, e)

-- the same of all
all_down_alone : (es : List Leaning) → LeansDown es → AreNonnegative (cut (pos 0) (pos 1) es)
all_down_alone [] h = tt
all_down_alone (e ∷ es) h = (down_alone e.keep e.lean h.0, all_down_alone es h.1)

-- the negative of a factor 0
zero_alone : (x y : ℤ) → y ≡ pos 0 → pos 0 *ℤ x -ℤ pos 1 *ℤ y ≡ pos 0
zero_alone x y h =
    let e : pos 0 *ℤ x -ℤ pos 1 *ℤ y ≡ neg_ℤ y = by_ring_at (x ∷ y ∷ []) (search reify depth 40 fits 100000) tt in
    omega (arith, linear, e, h)

-- some factor is 0, or all are below
zero_or_all_down : (es : List Leaning) → LeansDown es → HasZero (cut (pos 0) (pos 1) es) ⊎ LeansAllDown es
zero_or_all_down [] h = inr tt
zero_or_all_down (e ∷ es) h =
    ⊎_elim
    (λ n. ⊎_elim (λ z. inl (inr z)) (λ d. inr (n, d)) (zero_or_all_down es h.1))
    (λ m. ⊎_elim
    (λ z. inl (inl (zero_alone e.keep e.lean z)))
    (λ p. let q = h.0 in absurd (omega (arith, linear, p, q))) m)
    (trichotomy_ℤ e.lean (pos 0))

-- the negative of a sum above 0
alone_low : (x y : ℤ) → pos 0 <ℤ y → (pos 0 *ℤ x -ℤ pos 1 *ℤ y) <ℤ pos 0
alone_low x y h =
    let e : pos 0 *ℤ x -ℤ pos 1 *ℤ y ≡ neg_ℤ y = by_ring_at (x ∷ y ∷ []) (search reify depth 40 fits 100000) tt in
    omega (arith, linear, e)

-- the relation's offsets add up to more than 0
pub settle_high : {offset : HalfSpace → ℤ} {hs : List HalfSpace} (r : Related offset hs) → pos 0 <ℤ weighted_sum offset (leaned r.es) → Shorter offset hs (length (kept r.es)) ⊎ LeansAllDown r.es
settle_high {offset} r high =
    ⊎_elim
    (λ down. ⊎_elim
    (λ z. inl (cut_off r (pos 0) (pos 1) (all_down_alone r.es down) z (alone_low (weighted_sum offset (kept r.es)) (weighted_sum offset (leaned r.es)) high)))
    (λ d. inr d)
    (zero_or_all_down r.es down))
    (λ c. inl (cut_tightest r (nonneg_of_pos_ℤ (weighted_sum offset (leaned r.es)) high) c))
    (tightest r.es r.keeps)

-- a relation that leans neither down nor up is none
both_down : (es : List Leaning) → LeansDown es → LeansDown (turned es) → AllByRecursion (λ e. e.lean ≡ pos 0) es
both_down [] h k = tt
both_down (e ∷ es) h k = (let p = h.0 in let q = k.0 in omega (arith, ints, p, q), both_down es h.1 k.1)

-- what leans down when turned leans up
turned_up : (es : List Leaning) → LeansAllDown (turned es) → LeansAllUp es
turned_up [] h = tt
turned_up (e ∷ es) h = (let p = h.0 in omega (arith, linear, p), turned_up es h.1)

-- the outcome: a shorter contradiction, or a relation of one sign that is itself a contradiction
pub data Outcome (offset : HalfSpace → ℤ) (hs : List HalfSpace) (r : Related offset hs) : Type 0 where
  shorter : Shorter offset hs (length (kept r.es)) → Outcome offset hs r
  up : LeansAllUp r.es → weighted_sum offset (leaned r.es) <ℤ pos 0 → Outcome offset hs r
  down : LeansAllDown r.es → pos 0 <ℤ weighted_sum offset (leaned r.es) → Outcome offset hs r

module _ {offset : HalfSpace → ℤ} {hs : List HalfSpace} (r : Related offset hs) where
  -- a shorter contradiction beside the turned relation is one
  of_turned : Shorter offset hs (length (kept (turned r.es))) → Shorter offset hs (length (kept r.es))
  of_turned s = subst (λ ts. Shorter offset hs (length ts)) (kept-turned r.es) s

  -- the relation's offsets add up to less than 0
  settle_low : weighted_sum offset (leaned r.es) <ℤ pos 0 → Outcome offset hs r
  settle_low low =
      let e = weighted_sum-turned offset r.es in
      let high : pos 0 <ℤ weighted_sum offset (leaned (turned r.es)) = omega (arith, linear, e, low) in
      ⊎_elim (λ s. shorter (of_turned s)) (λ d. up (turned_up r.es d) low) (settle_high (turn r) high)

  -- they add up to 0
  settle_even : weighted_sum offset (leaned r.es) ≡ pos 0 → Outcome offset hs r
  settle_even even =
      let e = weighted_sum-turned offset r.es in
      let one_way : pos 0 ≤ℤ weighted_sum offset (leaned r.es) = omega (arith, linear, even) in
      let other_way : pos 0 ≤ℤ weighted_sum offset (leaned (turned r.es)) = omega (arith, linear, even, e) in
      ⊎_elim
      (λ d. ⊎_elim
      (λ u. absurd (r.some (both_down r.es d u)))
      (λ c. shorter (of_turned (cut_tightest (turn r) other_way c)))
      (tightest (turned r.es) (keeps_turned r.es r.keeps)))
      (λ c. shorter (cut_tightest r one_way c))
      (tightest r.es r.keeps)

  -- one of the three outcomes
  pub settle : Outcome offset hs r
  settle =
      ⊎_elim
      settle_low
      (λ m. ⊎_elim settle_even (λ high. ⊎_elim (λ s. shorter s) (λ d. down d high) (settle_high r high)) m)
      (trichotomy_ℤ (weighted_sum offset (leaned r.es)) (pos 0))
