-- A point near the union of two bounded shapes is near one of them.
use Rattle.std.proofs.Common.{◌⊎◌, inl, inr, ⊎_elim}
use Rattle.rp_geometry.specs.Geometry.{RationalPoint}
use Rattle.rp_geometry.specs.sets.Shape.{Shape, shape_of_cells}
use Rattle.rp_geometry.specs.sets.Contact.{IsNear}
use Rattle.rp_geometry.specs.laws.RegionLaws.{IsBoundedShape, NearUnionIsNearOne, ContactWithUnionIsWithOne}
use Rattle.rp_geometry.proofs.Members.{near_larger, union_larger, union_left, union_right}
use Rattle.rp_parts.proofs.Near.{IsFar, near_not_far}
use Rattle.rp_parts.proofs.NearRegion.{region_weak_or_far, union_far, near_region_is_weak_spec}
use Rattle.rp_parts.proofs.Regions.{shape_is_region_spec}

-- a point near the union of two shapes is near one of them: it is decided of the cells of each
near_one : (s t : Shape) → IsBoundedShape s → IsBoundedShape t → (p : RationalPoint) → IsNear (Shape.union s t) p → IsNear s p ⊎ IsNear t p
near_one s t ks kt p n =
    let (f, kf, same_f) = shape_is_region_spec s ks in
    let (g, kg, same_g) = shape_is_region_spec t kt in
    let far_from_both = λ (a : IsFar (shape_of_cells f) p) (b : IsFar (shape_of_cells g) p). near_not_far (Shape.union (shape_of_cells f) (shape_of_cells g)) p
    (near_larger (Shape.union s t) (Shape.union (shape_of_cells f) (shape_of_cells g)) (union_larger s (shape_of_cells f) t (shape_of_cells g) same_f.1 same_g.1) p n)
    (union_far (shape_of_cells f) (shape_of_cells g) p a b) in
    ⊎_elim
    (λ w. inl (near_larger (shape_of_cells f) s same_f.0 p ((near_region_is_weak_spec f kf p).1 w)))
    (λ a. ⊎_elim
    (λ w. inr (near_larger (shape_of_cells g) t same_g.0 p ((near_region_is_weak_spec g kg p).1 w)))
    (λ b. absurd (far_from_both a b))
    (region_weak_or_far g p kg n.point))
    (region_weak_or_far f p kf n.point)

-- the law
pub near_union_is_near_one_spec : NearUnionIsNearOne
near_union_is_near_one_spec s t ks kt p = (
  near_one s t ks kt p,
  λ c. ⊎_elim (near_larger s (Shape.union s t) (union_left s t) p) (near_larger t (Shape.union s t) (union_right s t) p) c,
)

-- the law
pub contact_with_union_is_with_one_spec : ContactWithUnionIsWithOne
contact_with_union_is_with_one_spec s t u ks kt = (
  λ (p, n, m). ⊎_elim (λ k. inl (p, k, m)) (λ k. inr (p, k, m)) (near_one s t ks kt p n),
  λ c. ⊎_elim
      (λ (p, n, m). (p, near_larger s (Shape.union s t) (union_left s t) p n, m))
      (λ (p, n, m). (p, near_larger t (Shape.union s t) (union_right s t) p n, m))
      c,
)
