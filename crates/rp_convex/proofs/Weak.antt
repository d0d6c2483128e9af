-- The alternative for sides that are not negative, with any offset in the place of the fourth coefficient.
use Rattle.std.proofs.Common.{◌≡◌, ℤ, pos, ◌+ℤ◌, ◌*ℤ◌, ◌≤ℤ◌, ◌<ℤ◌, List, [], ◌∷◌, ◌⊎◌, inl, inr, ⊎_elim, subst, arith}
use Rattle.std.specs.List.{AllByRecursion}
use Rattle.rp_geometry.specs.Geometry.{RationalPoint, HalfSpace, half_space_of}
use Rattle.rp_geometry.specs.searches.Certificate.{weighted_sum}
use Rattle.rp_algebra.proofs.IntLaws.{linear}
use Rattle.rp_algebra.proofs.Numbers.{last_alone}
use Rattle.rp_algebra.proofs.Reify.{by_ring_at, reify}
use Rattle.rp_convex.proofs.Combination.{IsSmall, Contradiction, Refutation}
use Rattle.rp_convex.proofs.Cone.{Solution, Combination, solution_or_combination}
use Rattle.rp_convex.proofs.Reduction.{reduce}

-- the value with the offset
abbrev pub offset_side : (HalfSpace → ℤ) → RationalPoint → HalfSpace → ℤ
offset_side offset p h = h.a *ℤ p.x +ℤ h.b *ℤ p.y +ℤ h.c *ℤ p.z +ℤ offset h *ℤ p.w

-- a point of positive weight at which no value is negative
pub record Point (offset : HalfSpace → ℤ) (hs : List HalfSpace) : Type 0 where
  pub at : RationalPoint
  pub weight : pos 0 <ℤ at.w
  pub all : AllByRecursion (λ h. pos 0 ≤ℤ offset_side offset at h) hs

-- a sum with a multiple of 0
no_weight : (s k : ℤ) → s +ℤ k *ℤ pos 0 ≡ pos 0 → s ≡ pos 0
no_weight s k e =
    let z : k *ℤ pos 0 ≡ pos 0 = by_ring_at (k ∷ []) (search reify depth 40 fits 100000) tt in
    omega (arith, linear, e, z)

-- a sum that is 0 with a positive number
some_weight : (s k : ℤ) → pos 0 <ℤ k → s +ℤ k *ℤ pos 1 ≡ pos 0 → s <ℤ pos 0
some_weight s k p e =
    let o : k *ℤ pos 1 ≡ k = by_ring_at (k ∷ []) (search reify depth 40 fits 100000) tt in
    omega (arith, linear, e, o, p)

module _ (offset : HalfSpace → ℤ) (hs : List HalfSpace) where
  -- the half-space with the offset
  abbrev shifted : HalfSpace → HalfSpace
  shifted h = half_space_of h.a h.b h.c (offset h)

  -- the function w
  abbrev weight_form : HalfSpace
  weight_form = half_space_of (pos 0) (pos 0) (pos 0) (pos 1)

  -- a point where all are not negative and w is positive
  point_from : Solution hs shifted weight_form → Point offset hs
  point_from s = record { at = s.point; weight = subst (λ v. pos 0 <ℤ v) (last_alone s.point.x s.point.y s.point.z s.point.w) s.positive; all = s.all }

  -- a combination with w is a contradiction
  contradiction_from : Combination hs shifted weight_form → Contradiction offset hs
  contradiction_from m = record {
    terms = m.terms;
    among = m.among;
    positive = m.positive;
    a = no_weight (weighted_sum (λ h. h.a) m.terms) m.by m.a;
    b = no_weight (weighted_sum (λ h. h.b) m.terms) m.by m.b;
    c = no_weight (weighted_sum (λ h. h.c) m.terms) m.by m.c;
    negative = some_weight (weighted_sum offset m.terms) m.by m.by_positive m.d;
  }

  -- a point or a refutation
  pub point_or_refutation : AllByRecursion IsSmall hs → Point offset hs ⊎ Refutation offset hs
  point_or_refutation small =
      ⊎_elim (λ s. inl (point_from s)) (λ m. inr (reduce offset hs small (contradiction_from m))) (solution_or_combination hs shifted weight_form)
