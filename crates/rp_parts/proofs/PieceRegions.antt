-- Lists of cells and of parts as shapes: their members, and what is near them, by one cell of the list.
use Rattle.std.proofs.Common.{◌≡◌, true, false, ⊎_elim, List, [], ◌∷◌, refl, subst, sym}
use Rattle.std.specs.List.{AllByRecursion}
use Rattle.rp_algebra.proofs.Listed.{Listed, first, later, all_of, listed_at}
use Rattle.rp_geometry.specs.Geometry.{RationalPoint, HalfSpace}
use Rattle.rp_geometry.specs.sets.Shape.{Shape, IsMember, Part, shape_of_cell, shape_of_cells, shape_of_parts}
use Rattle.rp_geometry.specs.sets.Sets.{IsWithin}
use Rattle.rp_geometry.specs.sets.Contact.{IsNear, IsBoundedRegion}
use Rattle.rp_geometry.specs.laws.CellLaws.{AreHalfSpaces}
use Rattle.rp_geometry.specs.laws.PieceLaws.{IsNonemptyPart}
use Rattle.rp_parts.proofs.Near.{near_cell_is_weak_spec}
use Rattle.rp_parts.proofs.NearRegion.{cell_within, near_region_is_weak_spec}
use Rattle.rp_geometry.proofs.Members.{member_passes, union_cases}
use Rattle.rp_parts.proofs.Found.{cells_of, parts_as_cells}

-- ---- lists of cells

-- a cell of a list, and a point that is a member of it
pub record HasInCell (cells : List (List HalfSpace)) (p : RationalPoint) : Type 0 where
  pub cell : List HalfSpace
  pub listed : Listed cell cells
  pub member : IsMember (shape_of_cell cell) p

-- a member of a list of cells is one of some cell
pub in_some_cell : (cells : List (List HalfSpace)) (p : RationalPoint) → IsMember (shape_of_cells cells) p → HasInCell cells p
in_some_cell [] p m = absurd (let e : false ≡ true = member_passes Shape.nothing p m in cc)
in_some_cell (c ∷ cells) p m =
    ⊎_elim
    (λ (k : IsMember (shape_of_cell c) p). record { cell = c; listed = first; member = k })
    (λ (k : IsMember (shape_of_cells cells) p). let r = in_some_cell cells p k in record { cell = r.cell; listed = later r.listed; member = r.member })
    (union_cases (shape_of_cell c) (shape_of_cells cells) p m)

-- a cell of a list with a member, to which the point is near
pub record IsNearCell (cells : List (List HalfSpace)) (p : RationalPoint) : Type 0 where
  pub cell : List HalfSpace
  pub listed : Listed cell cells
  pub near : IsNear (shape_of_cell cell) p

-- what is near a list of cells is near some cell
pub near_some_cell : (cells : List (List HalfSpace)) → IsBoundedRegion cells → (p : RationalPoint) → IsNear (shape_of_cells cells) p → IsNearCell cells p
near_some_cell cells k p n =
    let w = (near_region_is_weak_spec cells k p).0 n in
    let l = listed_at w.cell cells w.place w.stands in
    record { cell = w.cell; listed = l; near = (near_cell_is_weak_spec w.cell (all_of AreHalfSpaces cells k w.cell l) w.nonempty p).1 (w.point, w.weak) }

-- ---- lists of parts

-- the cells of parts keep their bounds
pub cells_bounded : (parts : List Part) → AllByRecursion IsNonemptyPart parts → IsBoundedRegion (cells_of parts)
cells_bounded [] k = tt
cells_bounded (p ∷ parts) k = (k.0.half_spaces, cells_bounded parts k.1)

-- the cell of a part stands in the list of cells
pub cell_listed : (parts : List Part) (p : Part) → Listed p parts → Listed p.cell (cells_of parts)
cell_listed [] p l = elim l [ ]
cell_listed (q ∷ parts) p first = first
cell_listed (q ∷ parts) p (later l) = later (cell_listed parts p l)

-- a part of a list whose cell is this one
pub record HasCell (parts : List Part) (cell : List HalfSpace) : Type 0 where
  pub part : Part
  pub listed : Listed part parts
  pub is : part.cell ≡ cell

-- a cell of the list of cells is that of a part
pub part_with_cell : (parts : List Part) (cell : List HalfSpace) → Listed cell (cells_of parts) → HasCell parts cell
part_with_cell [] cell l = elim l [ ]
part_with_cell (q ∷ parts) cell first = record { part = q; listed = first; is = refl }
part_with_cell (q ∷ parts) cell (later l) = let r = part_with_cell parts cell l in record { part = r.part; listed = later r.listed; is = r.is }

-- a part of a list, and a point that is a member of it
pub record HasInPart (parts : List Part) (p : RationalPoint) : Type 0 where
  pub part : Part
  pub listed : Listed part parts
  pub member : IsMember (shape_of_cell part.cell) p

-- a member of a list of parts is one of some part
pub in_some_part : (parts : List Part) (p : RationalPoint) → IsMember (shape_of_parts parts) p → HasInPart parts p
in_some_part parts p m =
    let r = in_some_cell (cells_of parts) p (subst (λ s. IsMember s p) (parts_as_cells parts) m) in
    let c = part_with_cell parts r.cell r.listed in
    record { part = c.part; listed = c.listed; member = subst (λ e. IsMember (shape_of_cell e) p) (sym c.is) r.member }

-- the members of a part of a list are members of the list
pub part_within : (parts : List Part) (q : Part) → Listed q parts → IsWithin (shape_of_cell q.cell) (shape_of_parts parts)
part_within parts q l p m = subst (λ s. IsMember s p) (sym (parts_as_cells parts)) (cell_within (cells_of parts) q.cell (cell_listed parts q l) p m)

-- a part of a list to which the point is near
pub record IsNearPart (parts : List Part) (p : RationalPoint) : Type 0 where
  pub part : Part
  pub listed : Listed part parts
  pub near : IsNear (shape_of_cell part.cell) p

-- what is near a list of parts is near some part
pub near_some_part : (parts : List Part) → AllByRecursion IsNonemptyPart parts → (p : RationalPoint) → IsNear (shape_of_parts parts) p → IsNearPart parts p
near_some_part parts k p n =
    let r = near_some_cell (cells_of parts) (cells_bounded parts k) p (subst (λ s. IsNear s p) (parts_as_cells parts) n) in
    let c = part_with_cell parts r.cell r.listed in
    record { part = c.part; listed = c.listed; near = subst (λ e. IsNear (shape_of_cell e) p) (sym c.is) r.near }
