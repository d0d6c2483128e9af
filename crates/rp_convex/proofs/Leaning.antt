-- Terms beside a relation of their half-spaces: a multiple of the relation is taken away until a term is left out.
use Rattle.std.proofs.Common.{◌≡◌, ℤ, pos, neg_ℤ, ◌+ℤ◌, ◌-ℤ◌, ◌*ℤ◌, ◌≤ℤ◌, ◌<ℤ◌, List, [], ◌∷◌, suc, ◌⊎◌, inl, inr, ⊎_elim, length, refl, ap, ◌∙◌, arith}
use Rattle.std.specs.List.{AllByRecursion}
use Rattle.rp_geometry.specs.Geometry.{HalfSpace}
use Rattle.rp_geometry.specs.searches.Certificate.{Multiple, weighted_sum}
use Rattle.rp_geometry.specs.searches.Elimination.{multiple_of, half_spaces_of}
use Rattle.rp_algebra.proofs.IntLaws.{linear, signs, le_or_lt_ℤ, pos_of_mul_pos_ℤ, nonneg_of_pos_ℤ}
use Rattle.rp_algebra.proofs.Reify.{by_ring_at, le_by_ring, le_by_multiple, reify}
use Rattle.rp_algebra.proofs.Numbers.{less_exchanged}
use Rattle.rp_convex.proofs.Dropped.{HasZero, AreNonnegative}

-- a half-space with its factor in a sum, `keep`, and its factor in a relation, `lean`
pub record Leaning : Type 0 where
  pub keep : ℤ
  pub lean : ℤ
  pub of : HalfSpace

-- the terms of the sum
abbrev pub kept : List Leaning → List Multiple
kept [] = []
kept (e ∷ es) = multiple_of e.keep e.of ∷ kept es

-- the terms of the relation
abbrev pub leaned : List Leaning → List Multiple
leaned [] = []
leaned (e ∷ es) = multiple_of e.lean e.of ∷ leaned es

-- the relation with all factors negated
abbrev pub turned : List Leaning → List Leaning
turned [] = []
turned (e ∷ es) = record { keep = e.keep; lean = neg_ℤ e.lean; of = e.of } ∷ turned es

-- s times the sum, less k times the relation
abbrev pub cut : ℤ → ℤ → List Leaning → List Multiple
cut s k [] = []
cut s k (e ∷ es) = multiple_of (s *ℤ e.keep -ℤ k *ℤ e.lean) e.of ∷ cut s k es

-- the cut of no terms
cut_none : (s k : ℤ) → pos 0 ≡ s *ℤ pos 0 -ℤ k *ℤ pos 0
cut_none s k = by_ring_at (s ∷ k ∷ []) (search reify depth 40 fits 100000) tt

-- the cut of one term more
cut_more : (s k x y f a b : ℤ) → (s *ℤ x -ℤ k *ℤ y) *ℤ f +ℤ (s *ℤ a -ℤ k *ℤ b) ≡ s *ℤ (x *ℤ f +ℤ a) -ℤ k *ℤ (y *ℤ f +ℤ b)
cut_more s k x y f a b = by_ring_at (s ∷ k ∷ x ∷ y ∷ f ∷ a ∷ b ∷ []) (search reify depth 40 fits 100000) tt

-- the sum of a cut
pub weighted_sum-cut : (s k : ℤ) (F : HalfSpace → ℤ) (es : List Leaning) → weighted_sum F (cut s k es) ≡ s *ℤ weighted_sum F (kept es) -ℤ k *ℤ weighted_sum F (leaned es)
weighted_sum-cut s k F [] = cut_none s k
weighted_sum-cut s k F (e ∷ es) =
    ap (λ x. (s *ℤ e.keep -ℤ k *ℤ e.lean) *ℤ F e.of +ℤ x) (weighted_sum-cut s k F es)
    ∙ cut_more s k e.keep e.lean (F e.of) (weighted_sum F (kept es)) (weighted_sum F (leaned es))

-- a cut has the same half-spaces
pub half_spaces_of-cut : (s k : ℤ) (es : List Leaning) → half_spaces_of (kept es) ≡ half_spaces_of (cut s k es)
half_spaces_of-cut s k [] = refl
half_spaces_of-cut s k (e ∷ es) = ap (λ hs. e.of ∷ hs) (half_spaces_of-cut s k es)

-- a cut has as many terms
pub length-cut : (s k : ℤ) (es : List Leaning) → length (cut s k es) ≡ length (kept es)
length-cut s k [] = refl
length-cut s k (e ∷ es) = ap suc (length-cut s k es)

-- ---- the relation turned round
-- the negated sum of one term more
turned_more : (y f b : ℤ) → neg_ℤ y *ℤ f +ℤ neg_ℤ b ≡ neg_ℤ (y *ℤ f +ℤ b)
turned_more y f b = by_ring_at (y ∷ f ∷ b ∷ []) (search reify depth 40 fits 100000) tt

-- the sum of the turned relation is negated
pub weighted_sum-turned : (F : HalfSpace → ℤ) (es : List Leaning) → weighted_sum F (leaned (turned es)) ≡ neg_ℤ (weighted_sum F (leaned es))
weighted_sum-turned F [] = refl
weighted_sum-turned F (e ∷ es) =
    ap (λ x. neg_ℤ e.lean *ℤ F e.of +ℤ x) (weighted_sum-turned F es)
    ∙ turned_more e.lean (F e.of) (weighted_sum F (leaned es))

-- the sum itself stays
pub kept-turned : (es : List Leaning) → kept (turned es) ≡ kept es
kept-turned [] = refl
kept-turned (e ∷ es) = ap (λ ts. multiple_of e.keep e.of ∷ ts) (kept-turned es)

-- ---- how much of the relation can be taken away
-- all factors of the sum are positive
abbrev pub KeepsPositive : List Leaning → Type 0
KeepsPositive es = AllByRecursion (λ e. pos 0 <ℤ e.keep) es

-- no factor of the relation is positive
abbrev pub LeansDown : List Leaning → Type 0
LeansDown es = AllByRecursion (λ e. e.lean ≤ℤ pos 0) es

-- a cut with which no factor is negative, and one is 0
pub record Cut (es : List Leaning) : Type 0 where
  pub s : ℤ
  pub k : ℤ
  pub s_positive : pos 0 <ℤ s
  pub k_positive : pos 0 <ℤ k
  pub nonnegative : AreNonnegative (cut s k es)
  pub zero : HasZero (cut s k es)

-- a term cut by its own factors is 0, so not negative
own_cut_nonneg : (x y : ℤ) → pos 0 ≤ℤ (y *ℤ x -ℤ x *ℤ y)
own_cut_nonneg x y = let e = less_exchanged y x in omega (arith, linear, e)

-- a term that does not lean up is not negative after a cut
down_cut : (s k x y : ℤ) → pos 0 <ℤ s → pos 0 <ℤ k → pos 0 <ℤ x → y ≤ℤ pos 0 → pos 0 ≤ℤ (s *ℤ x -ℤ k *ℤ y)
down_cut s k x y sp kp xp yn =
    let n : pos 0 ≤ℤ neg_ℤ y = omega (arith, linear) in
    let c : pos 0 ≤ℤ (s *ℤ x +ℤ k *ℤ neg_ℤ y) = search signs in
    le_by_ring (s ∷ k ∷ x ∷ y ∷ []) c (search reify depth 40 fits 100000) tt

-- the same of all terms
down_cuts : (s k : ℤ) (es : List Leaning) → pos 0 <ℤ s → pos 0 <ℤ k → KeepsPositive es → LeansDown es → AreNonnegative (cut s k es)
down_cuts s k [] sp kp h d = tt
down_cuts s k (e ∷ es) sp kp h d = (down_cut s k e.keep e.lean sp kp h.0 d.0, down_cuts s k es sp kp h.1 d.1)

-- a tighter cut: x / y < k / s
tighter : (s k x y u v : ℤ) → pos 0 <ℤ k → pos 0 <ℤ x → pos 0 <ℤ u → (s *ℤ x -ℤ k *ℤ y) <ℤ pos 0 → pos 0 ≤ℤ (s *ℤ u -ℤ k *ℤ v) → pos 0 ≤ℤ (y *ℤ u -ℤ x *ℤ v)
tighter s k x y u v kp xp up low high =
    let d : pos 0 ≤ℤ (k *ℤ y -ℤ s *ℤ x) = omega (arith, linear, low) in
    let c : pos 0 ≤ℤ (u *ℤ (k *ℤ y -ℤ s *ℤ x) +ℤ x *ℤ (s *ℤ u -ℤ k *ℤ v)) = search signs in
    le_by_multiple (s ∷ k ∷ x ∷ y ∷ u ∷ v ∷ []) {k = k} kp c (search reify depth 40 fits 100000) tt

-- the same of all terms
tighter_cuts : (s k x y : ℤ) (es : List Leaning) → pos 0 <ℤ k → pos 0 <ℤ x → KeepsPositive es → (s *ℤ x -ℤ k *ℤ y) <ℤ pos 0 → AreNonnegative (cut s k es) → AreNonnegative (cut y x es)
tighter_cuts s k x y [] kp xp h low n = tt
tighter_cuts s k x y (e ∷ es) kp xp h low n = (tighter s k x y e.keep e.lean kp xp h.0 low n.0, tighter_cuts s k x y es kp xp h.1 low n.1)

-- a factor over which the cut is negative leans up
leans_up : (s k x y : ℤ) → pos 0 <ℤ s → pos 0 <ℤ k → pos 0 <ℤ x → (s *ℤ x -ℤ k *ℤ y) <ℤ pos 0 → pos 0 <ℤ y
leans_up s k x y sp kp xp low =
    let c : pos 0 <ℤ (s *ℤ x +ℤ (k *ℤ y -ℤ s *ℤ x)) = (let d : pos 0 <ℤ (k *ℤ y -ℤ s *ℤ x) = omega (arith, linear, low) in search signs) in
    let e : s *ℤ x +ℤ (k *ℤ y -ℤ s *ℤ x) ≡ k *ℤ y = by_ring_at (s ∷ k ∷ x ∷ y ∷ []) (search reify depth 40 fits 100000) tt in
    let f : pos 0 <ℤ (k *ℤ y) = omega (arith, linear, c, e) in
    pos_of_mul_pos_ℤ k y (nonneg_of_pos_ℤ k kp) f

module _ (e : Leaning) (es : List Leaning) (p : pos 0 <ℤ e.keep) (h : KeepsPositive es) where
  -- the new factor gives the cut
  own : pos 0 <ℤ e.lean → AreNonnegative (cut e.lean e.keep es) → Cut (e ∷ es)
  own l n = record { s = e.lean; k = e.keep; s_positive = l; k_positive = p; nonnegative = (own_cut_nonneg e.keep e.lean, n); zero = inl (less_exchanged e.lean e.keep) }

  -- a cut of the other terms, and one more
  cut_further : Cut es → Cut (e ∷ es)
  cut_further c =
      ⊎_elim
      (λ high. record { s = c.s; k = c.k; s_positive = c.s_positive; k_positive = c.k_positive; nonnegative = (high, c.nonnegative); zero = inr c.zero })
      (λ low. own (leans_up c.s c.k e.keep e.lean c.s_positive c.k_positive p low) (tighter_cuts c.s c.k e.keep e.lean es c.k_positive p h low c.nonnegative))
      (le_or_lt_ℤ (pos 0) (c.s *ℤ e.keep -ℤ c.k *ℤ e.lean))

  -- where no other term leans up, one more
  cut_first : LeansDown es → LeansDown (e ∷ es) ⊎ Cut (e ∷ es)
  cut_first d =
      ⊎_elim
      (λ low. inl (low, d))
      (λ high. inr (own high (down_cuts e.lean e.keep es high p h d)))
      (le_or_lt_ℤ e.lean (pos 0))

-- the tightest cut, unless all lean down
pub tightest : (es : List Leaning) → KeepsPositive es → LeansDown es ⊎ Cut es
tightest [] h = inl tt
tightest (e ∷ es) h = ⊎_elim (cut_first e es h.0 h.1) (λ c. inr (cut_further e es h.0 h.1 c)) (tightest es h.1)
