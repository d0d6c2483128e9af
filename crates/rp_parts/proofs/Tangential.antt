-- A part of a shape has a common neighbour with it exactly where it is in contact with its outside: the outside is such a neighbour.
use Rattle.rp_geometry.specs.sets.Shape.{Shape, shape_of_cells, shape_of_parts}
use Rattle.rp_geometry.specs.sets.Sets.{IsWithin}
use Rattle.rp_geometry.specs.sets.Contact.{IsInContact, HasCommonNeighbour}
use Rattle.rp_geometry.specs.laws.RegionLaws.{IsBoundedShape, TangentialPartTouchesOutside, TangentialPartTouchesRest}
use Rattle.rp_geometry.proofs.Members.{contact_larger, contact_turned, not_outside, within_outside}
use Rattle.rp_parts.proofs.Regions.{shape_is_region_spec, parts_are_bounded}

-- a shape is within itself
pub itself : (s : Shape) → IsWithin s s
itself s p m = m

-- a common neighbour shares no member with the second shape, so where it is in contact with the first, so is the outside of the second
pub neighbour_touches_outside : (s t : Shape) → HasCommonNeighbour s t → IsInContact s (Shape.complement t)
neighbour_touches_outside s t (cells, bounded, first, second) =
    contact_larger s s (shape_of_cells cells) (Shape.complement t) (itself s) (within_outside (shape_of_cells cells) t second.1) (contact_turned (shape_of_cells cells) s first.0)

-- the outside of a shape is a bounded region. It shares no member with the shape, nor with a part of it, and a point that is near the outside and a part is near the shape too.
pub outside_is_neighbour : (s t : Shape) → IsBoundedShape t → IsWithin s t → IsInContact s (Shape.complement t) → HasCommonNeighbour s t
outside_is_neighbour s t k within touch =
    let (cells, bounded, same) = shape_is_region_spec (Shape.complement t) k in
    let turned = contact_turned s (Shape.complement t) touch in (
      cells,
      bounded,
      (
        contact_larger (Shape.complement t) (shape_of_cells cells) s s same.1 (itself s) turned,
        λ (p, m, n). not_outside t p (within p n) (same.0 p m),
      ),
      (
        contact_larger (Shape.complement t) (shape_of_cells cells) s t same.1 within turned,
        λ (p, m, n). not_outside t p n (same.0 p m),
      ),
    )

-- the law
pub tangential_part_touches_outside_spec : TangentialPartTouchesOutside
tangential_part_touches_outside_spec s t ks kt ns nt part = (neighbour_touches_outside s t, outside_is_neighbour s t kt part.0)

-- the law
pub tangential_part_touches_rest_spec : TangentialPartTouchesRest
tangential_part_touches_rest_spec ps qs rest k same within =
    let s = shape_of_parts ps in
    let t = shape_of_parts qs in
    let r = shape_of_parts rest in (
      λ n. contact_larger s s (Shape.complement t) r (itself s) same.1 (neighbour_touches_outside s t n),
      λ c. outside_is_neighbour s t (parts_are_bounded qs k) within (contact_larger s s r (Shape.complement t) (itself s) same.0 c),
    )
