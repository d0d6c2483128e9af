-- A point in lowest terms is the same place, and side values have the same sign there.
use Rattle.std.proofs.Common.{◌≡◌, ℤ, ◌*ℤ◌, [], ◌∷◌, sym, ◌∙◌}
use Rattle.rp_algebra.proofs.Reify.{by_ring_at, reify}
use Rattle.rp_geometry.specs.Geometry.{RationalPoint, HalfSpace, IsPoint, SamePlace, side_value, reduced_point}
use Rattle.rp_convex.proofs.Lowest.{reduced_is}
use Rattle.rp_convex.proofs.Places.{same_side}
use Rattle.rp_convex.proofs.Signs.{HaveSameSign, same_sign}

-- a factor on the other side
turned : (u v k : ℤ) → (u *ℤ k) *ℤ v ≡ u *ℤ (v *ℤ k)
turned u v k = by_ring_at (u ∷ v ∷ k ∷ []) (search reify depth 40 fits 100000) tt

-- a point in lowest terms is the same place
pub same_reduced : (p : RationalPoint) → IsPoint p → SamePlace p (reduced_point p)
same_reduced p k =
    let r = reduced_point p in
    let m = (reduced_is p k).multiple in
    record {
      x = (λ i. sym m.x i *ℤ r.w) ∙ turned r.x r.w m.factor ∙ (λ i. r.x *ℤ m.w i);
      y = (λ i. sym m.y i *ℤ r.w) ∙ turned r.y r.w m.factor ∙ (λ i. r.y *ℤ m.w i);
      z = (λ i. sym m.z i *ℤ r.w) ∙ turned r.z r.w m.factor ∙ (λ i. r.z *ℤ m.w i);
    }

-- a half-space has the same sign at both
pub same_sign_reduced : (h : HalfSpace) (p : RationalPoint) → IsPoint p → HaveSameSign (side_value h p) (side_value h (reduced_point p))
same_sign_reduced h p k =
    let r = reduced_point p in
    same_sign (side_value h p) (side_value h r) p.w r.w k (reduced_is p k).point (same_side h p r (same_reduced p k))
