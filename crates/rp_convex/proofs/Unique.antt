-- Two refutations of the same half-spaces, of which no part has a refutation, are multiples of each other, and the same in lowest terms.
use Rattle.std.proofs.Common.{◌≡◌, ℕ, ◌*◌, ℤ, pos, negsuc, ◌-ℤ◌, ◌*ℤ◌, ◌<ℤ◌, nat_abs, List, [], ◌∷◌, length, ◌⊎◌, inl, inr, ⊎_elim, refl, sym, ap, ◌∙◌, subst, arith}
use Rattle.std.specs.Int.{◌∣◌}
use Rattle.std.specs.List.{AllByRecursion}
use Rattle.std.proofs.Math.Nat.{dvd-mul_right, mul-one}
use Rattle.std.proofs.lemmas.Int.{ints}
use Rattle.std.proofs.lemmas.Nat.Gcd.{dvd_antisymm}
use Rattle.rp_algebra.specs.Integer.{gcd_of}
use Rattle.rp_geometry.specs.Geometry.{HalfSpace}
use Rattle.rp_geometry.specs.searches.Certificate.{Multiple, weighted_sum}
use Rattle.rp_geometry.specs.searches.Elimination.{multiple_of, factors_of, half_spaces_of}
use Rattle.rp_algebra.proofs.IntLaws.{linear, cancel_mul_left_ℤ, abs_mul}
use Rattle.rp_convex.proofs.Combination.{Among}
use Rattle.rp_convex.proofs.Dropped.{HasZero}
use Rattle.rp_convex.proofs.Leaning.{Leaning, kept, leaned, cut, weighted_sum-cut, KeepsPositive, LeansDown, Cut, tightest}
use Rattle.rp_convex.proofs.Settle.{Related, Outcome, shorter, up, down, settle, Shorter, LeansAllUp, LeansAllDown}
use Rattle.rp_algebra.proofs.Divisors.{gcd_of-divides, gcd_of-times}
use Rattle.rp_algebra.proofs.LowestTerms.{AreMultiples, multiples_from_divides}
use Rattle.rp_algebra.proofs.Numbers.{zero_difference, zero_or_not}
use Rattle.rp_algebra.proofs.Ring.{from_difference}

-- ---- the lowest terms
-- the factors have no common divisor but 1
abbrev pub IsLowest : List Multiple → Type 0
IsLowest ts = (d : ℕ) → AreMultiples d (factors_of ts) → d ≡ 1

-- their greatest common divisor is 1
pub lowest-gcd : (ts : List Multiple) → IsLowest ts → gcd_of (factors_of ts) ≡ 1
lowest-gcd ts l = l (gcd_of (factors_of ts)) (multiples_from_divides (gcd_of (factors_of ts)) (factors_of ts) (gcd_of-divides (factors_of ts)))

-- ---- proportional factors
-- s times each factor of the sum is k times that of the relation
abbrev pub IsProportional : ℤ → ℤ → List Leaning → Type 0
IsProportional s k es = AllByRecursion (λ e. s *ℤ e.keep ≡ k *ℤ e.lean) es

-- of equal multiples, the first factor divides the second multiple
times_divided : (s k : ℕ) (x y : ℤ) → pos s *ℤ x ≡ pos k *ℤ y → s ∣ k * nat_abs y
times_divided s k x y e =
    let m = abs_mul (pos s) x in
    let n = abs_mul (pos k) y in
    let f = ap nat_abs e in
    subst (λ z. s ∣ z) (joined (s * nat_abs x) (k * nat_abs y) (nat_abs (pos s *ℤ x)) (nat_abs (pos k *ℤ y)) m n f) (dvd-mul_right s (nat_abs x))
  where
    joined : (a b c d : ℕ) → c ≡ a → d ≡ b → c ≡ d → a ≡ b
    joined a b c d e f g = cc

-- so it divides the multiples of the relation
leaned_times : (s k : ℕ) (es : List Leaning) → IsProportional (pos s) (pos k) es → AllByRecursion (λ v. s ∣ k * nat_abs v) (factors_of (leaned es))
leaned_times s k [] h = tt
leaned_times s k (e ∷ es) h = (times_divided s k e.keep e.lean h.0, leaned_times s k es h.1)

-- and the other those of the sum
kept_times : (s k : ℕ) (es : List Leaning) → IsProportional (pos s) (pos k) es → AllByRecursion (λ v. k ∣ s * nat_abs v) (factors_of (kept es))
kept_times s k [] h = tt
kept_times s k (e ∷ es) h = (times_divided k s e.lean e.keep (sym h.0), kept_times s k es h.1)

-- in lowest terms the two factors are equal
same_multiple : (s k : ℕ) (es : List Leaning) → IsProportional (pos s) (pos k) es → gcd_of (factors_of (kept es)) ≡ 1 → gcd_of (factors_of (leaned es)) ≡ 1 → s ≡ k
same_multiple s k es h e f =
    dvd_antisymm
    (subst (λ x. s ∣ x) (ap (λ g. k * g) f ∙ mul-one k) (gcd_of-times s k (factors_of (leaned es)) (leaned_times s k es h)))
    (subst (λ x. k ∣ x) (ap (λ g. s * g) e ∙ mul-one s) (gcd_of-times k s (factors_of (kept es)) (kept_times s k es h)))

-- so the terms are
same_terms : (s : ℕ) (es : List Leaning) → pos 0 <ℤ pos s → IsProportional (pos s) (pos s) es → kept es ≡ leaned es
same_terms s [] p h = refl
same_terms s (e ∷ es) p h = λ i. multiple_of (cancel_mul_left_ℤ (pos s) e.keep e.lean p h.0 i) e.of ∷ same_terms s es p h.1 i

-- proportional factors in lowest terms are equal
same_by_proportion : (s k : ℤ) (es : List Leaning) → pos 0 <ℤ s → pos 0 <ℤ k → IsProportional s k es → gcd_of (factors_of (kept es)) ≡ 1 → gcd_of (factors_of (leaned es)) ≡ 1 → kept es ≡ leaned es
same_by_proportion (negsuc s) k es p q h e f = absurd (omega (arith, ints, p))
same_by_proportion (pos s) (negsuc k) es p q h e f = absurd (omega (arith, ints, q))
same_by_proportion (pos s) (pos k) es p q h e f =
    let same = same_multiple s k es h e f in
    same_terms s es p (subst (λ j. IsProportional (pos s) (pos j) es) (sym same) h)

-- ---- the tightest cut leaves nothing
-- a sum beside what a cut leaves
abbrev pub beside_cut : ℤ → ℤ → List Leaning → List Leaning
beside_cut s k [] = []
beside_cut s k (e ∷ es) = record { keep = e.keep; lean = s *ℤ e.keep -ℤ k *ℤ e.lean; of = e.of } ∷ beside_cut s k es

-- the sum stays
kept-beside : (s k : ℤ) (es : List Leaning) → kept (beside_cut s k es) ≡ kept es
kept-beside s k [] = refl
kept-beside s k (e ∷ es) = ap (λ ts. multiple_of e.keep e.of ∷ ts) (kept-beside s k es)

-- the relation is the cut
leaned-beside : (s k : ℤ) (es : List Leaning) → leaned (beside_cut s k es) ≡ cut s k es
leaned-beside s k [] = refl
leaned-beside s k (e ∷ es) = ap (λ ts. multiple_of (s *ℤ e.keep -ℤ k *ℤ e.lean) e.of ∷ ts) (leaned-beside s k es)

-- the factors of the sum stay
keeps_beside : (s k : ℤ) (es : List Leaning) → KeepsPositive es → KeepsPositive (beside_cut s k es)
keeps_beside s k [] h = tt
keeps_beside s k (e ∷ es) h = (h.0, keeps_beside s k es h.1)

-- whether nothing is left
all_zero_or_not : (es : List Leaning) → AllByRecursion (λ e. e.lean ≡ pos 0) es ⊎ (AllByRecursion (λ e. e.lean ≡ pos 0) es → ⊥)
all_zero_or_not [] = inl tt
all_zero_or_not (e ∷ es) = ⊎_elim (λ z. ⊎_elim (λ r. inl (z, r)) (λ n. inr (λ h. n h.1)) (all_zero_or_not es)) (λ n. inr (λ h. n h.0)) (zero_or_not e.lean)

-- where nothing is left the factors are proportional
proportional_from : (s k : ℤ) (es : List Leaning) → AllByRecursion (λ e. e.lean ≡ pos 0) (beside_cut s k es) → IsProportional s k es
proportional_from s k [] h = tt
proportional_from s k (e ∷ es) h = (let z = h.0 in from_difference (s *ℤ e.keep) (k *ℤ e.lean) z, proportional_from s k es h.1)

-- what is left is not all above 0
not_up : (s k : ℤ) (es : List Leaning) → HasZero (cut s k es) → LeansAllUp (beside_cut s k es) → ⊥
not_up s k [] z h = z
not_up s k (e ∷ es) z h = ⊎_elim (λ f. let p = h.0 in omega (arith, linear, f, p)) (λ r. not_up s k es r h.1) z

-- what is left is not all below 0
not_down : (s k : ℤ) (es : List Leaning) → HasZero (cut s k es) → LeansAllDown (beside_cut s k es) → ⊥
not_down s k [] z h = z
not_down s k (e ∷ es) z h = ⊎_elim (λ f. let p = h.0 in omega (arith, linear, f, p)) (λ r. not_down s k es r h.1) z

-- two contradictions of the same half-spaces, of which no part has one
pub record Twins (offset : HalfSpace → ℤ) (hs : List HalfSpace) : Type 0 where
  pub es : List Leaning
  pub among : Among (half_spaces_of (kept es)) hs
  pub keeps : KeepsPositive es
  pub leans : LeansAllUp es
  pub kept_a : weighted_sum (λ h. h.a) (kept es) ≡ pos 0
  pub kept_b : weighted_sum (λ h. h.b) (kept es) ≡ pos 0
  pub kept_c : weighted_sum (λ h. h.c) (kept es) ≡ pos 0
  pub negative : weighted_sum offset (kept es) <ℤ pos 0
  pub leaned_a : weighted_sum (λ h. h.a) (leaned es) ≡ pos 0
  pub leaned_b : weighted_sum (λ h. h.b) (leaned es) ≡ pos 0
  pub leaned_c : weighted_sum (λ h. h.c) (leaned es) ≡ pos 0
  pub least : Shorter offset hs (length (kept es)) → ⊥

module _ (offset : HalfSpace → ℤ) (hs : List HalfSpace) where
  -- what a cut leaves, beside the sum
  left_over : (t : Twins offset hs) (s k : ℤ) → (AllByRecursion (λ e. e.lean ≡ pos 0) (beside_cut s k t.es) → ⊥) → Related offset hs
  left_over t s k n =
      let same = sym (kept-beside s k t.es) in
      record {
        es = beside_cut s k t.es;
        among = subst (λ ts. Among (half_spaces_of ts) hs) same t.among;
        keeps = keeps_beside s k t.es t.keeps;
        kept_a = subst (λ ts. weighted_sum (λ h. h.a) ts ≡ pos 0) same t.kept_a;
        kept_b = subst (λ ts. weighted_sum (λ h. h.b) ts ≡ pos 0) same t.kept_b;
        kept_c = subst (λ ts. weighted_sum (λ h. h.c) ts ≡ pos 0) same t.kept_c;
        negative = subst (λ ts. weighted_sum offset ts <ℤ pos 0) same t.negative;
        leaned_a = ap (λ ts. weighted_sum (λ h. h.a) ts) (leaned-beside s k t.es) ∙ weighted_sum-cut s k (λ h. h.a) t.es ∙ zero_difference s k _ _ t.kept_a t.leaned_a;
        leaned_b = ap (λ ts. weighted_sum (λ h. h.b) ts) (leaned-beside s k t.es) ∙ weighted_sum-cut s k (λ h. h.b) t.es ∙ zero_difference s k _ _ t.kept_b t.leaned_b;
        leaned_c = ap (λ ts. weighted_sum (λ h. h.c) ts) (leaned-beside s k t.es) ∙ weighted_sum-cut s k (λ h. h.c) t.es ∙ zero_difference s k _ _ t.kept_c t.leaned_c;
        some = n;
      }

  -- it cannot be settled
  nothing_left : (t : Twins offset hs) (c : Cut t.es) (n : AllByRecursion (λ e. e.lean ≡ pos 0) (beside_cut c.s c.k t.es) → ⊥) → Outcome offset hs (left_over t c.s c.k n) → ⊥
  unfolding left_over
  nothing_left t c n (shorter s) = t.least (subst (λ ts. Shorter offset hs (length ts)) (kept-beside c.s c.k t.es) s)
  nothing_left t c n (up u low) = not_up c.s c.k t.es c.zero u
  nothing_left t c n (down d high) = not_down c.s c.k t.es c.zero d

  -- so nothing is left
  by_cut : (t : Twins offset hs) (c : Cut t.es) → IsProportional c.s c.k t.es
  by_cut t c =
      ⊎_elim
      (λ z. proportional_from c.s c.k t.es z)
      (λ n. absurd (nothing_left t c n (settle (left_over t c.s c.k n))))
      (all_zero_or_not (beside_cut c.s c.k t.es))

  -- the relation does not lean down
  not_both : (es : List Leaning) → weighted_sum offset (kept es) <ℤ pos 0 → LeansAllUp es → LeansDown es → ⊥
  not_both [] n u d = omega (arith, linear, n)
  not_both (e ∷ es) n u d = let p = u.0 in let q = d.0 in omega (arith, linear, p, q)

  -- twins in lowest terms are equal
  pub same_twins : (t : Twins offset hs) → gcd_of (factors_of (kept t.es)) ≡ 1 → gcd_of (factors_of (leaned t.es)) ≡ 1 → kept t.es ≡ leaned t.es
  same_twins t e f =
      ⊎_elim
      (λ d. absurd (not_both t.es t.negative t.leans d))
      (λ c. same_by_proportion c.s c.k t.es c.s_positive c.k_positive (by_cut t c) e f)
      (tightest t.es t.keeps)

-- ---- two lists of terms of the same half-spaces, side by side
-- two lists of terms, as one
abbrev pub Zipped : List Multiple → List Multiple → Type 0
Zipped ts us = (es : List Leaning) × (kept es ≡ ts) × (leaned es ≡ us)

-- no list with an item is empty
no_item : (h : HalfSpace) (hs : List HalfSpace) → [] ≡ h ∷ hs → ⊥
no_item h hs e = cc

-- equal lists have equal first items
same_head : (g h : HalfSpace) (gs hs : List HalfSpace) → g ∷ gs ≡ h ∷ hs → g ≡ h
same_head g h gs hs e = cc

-- and equal other items
same_tail : (g h : HalfSpace) (gs hs : List HalfSpace) → g ∷ gs ≡ h ∷ hs → gs ≡ hs
same_tail g h gs hs e = cc

-- two lists of terms of the same half-spaces are one
pub zipped : (ts us : List Multiple) → half_spaces_of ts ≡ half_spaces_of us → Zipped ts us
zipped [] [] e = ([], refl, refl)
zipped [] (u ∷ us) e = absurd (no_item u.of (half_spaces_of us) e)
zipped (t ∷ ts) [] e = absurd (no_item t.of (half_spaces_of ts) (sym e))
zipped (t ∷ ts) (u ∷ us) e =
    let r = zipped ts us (same_tail t.of u.of (half_spaces_of ts) (half_spaces_of us) e) in
    let h = same_head t.of u.of (half_spaces_of ts) (half_spaces_of us) e in
    (record { keep = t.factor; lean = u.factor; of = t.of } ∷ r.0, ap (λ vs. t ∷ vs) r.1, (λ i. multiple_of u.factor (h i) ∷ r.2 i))
