-- Pairs of cells: a common member is a member of both together, and two cells are in contact where both together have a point in their weak system.
use Rattle.std.proofs.Common.{false, ⊎_elim, List, ◌++◌}
use Rattle.std.specs.Prelude.{◌↔◌}
use Rattle.rp_algebra.proofs.Listed.{listed_left, listed_right, listed_cases, all_append}
use Rattle.rp_geometry.specs.Geometry.{RationalPoint, HalfSpace, IsHalfSpace, with_cube, cube_half_spaces}
use Rattle.rp_geometry.specs.sets.Shape.{shape_of_cell}
use Rattle.rp_geometry.specs.sets.Sets.{IsNonempty, Overlaps}
use Rattle.rp_geometry.specs.sets.Contact.{IsNear, IsInContact}
use Rattle.rp_geometry.specs.laws.CellLaws.{AreHalfSpaces, IsSolution}
use Rattle.rp_geometry.specs.laws.PartLaws.{ContactIsFound, OverlapIsFound}
use Rattle.rp_convex.proofs.Move.{IsWeak}
use Rattle.rp_convex.proofs.Vertex.{weak_is, weak_true}
use Rattle.rp_convex.proofs.InsideFound.{inside_is_found_spec}
use Rattle.rp_convex.proofs.WeakPoint.{weak_point_is_found_spec}
use Rattle.rp_convex.proofs.Held.{held_of, of_held, both_held, first_held, second_held}
use Rattle.rp_parts.proofs.Near.{near_cell_is_weak_spec}

-- the half-spaces of both cells keep their bounds
pub both_bounded : (c e : List HalfSpace) → AreHalfSpaces c → AreHalfSpaces e → AreHalfSpaces (c ++ e)
both_bounded c e kc ke = all_append IsHalfSpace c e kc ke

-- ---- common members

-- two cells have a common member exactly where both together have a member
pub overlap_is_member : (c e : List HalfSpace) → Overlaps (shape_of_cell c) (shape_of_cell e) ↔ IsNonempty (shape_of_cell (c ++ e))
overlap_is_member c e = (
  λ (p, m, n). (p, of_held (c ++ e) p (both_held c e p (held_of c p m) (held_of e p n))),
  λ (p, m). let k = held_of (c ++ e) p m in (p, of_held c p (first_held c e p k), of_held e p (second_held c e p k)),
)

-- the law
pub overlap_is_found_spec : OverlapIsFound
overlap_is_found_spec c e kc ke =
    let found = (inside_is_found_spec (c ++ e) (both_bounded c e kc ke)).some in
    let member = overlap_is_member c e in
    (λ o. found.1 (member.0 o), λ s. member.1 (found.0 s))

-- ---- contact

-- a point in both weak systems is in that of both together
both_weak : (c e : List HalfSpace) (p : RationalPoint) → IsWeak (with_cube c) p → IsWeak (with_cube e) p → IsWeak (with_cube (c ++ e)) p
both_weak c e p u v = record {
  point = u.point;
  sides = λ h l. ⊎_elim
      (λ i. ⊎_elim
      (λ j. u.sides h (listed_left h c cube_half_spaces j))
      (λ j. v.sides h (listed_left h e cube_half_spaces j))
      (listed_cases h c e i))
      (λ i. u.sides h (listed_right h c cube_half_spaces i))
      (listed_cases h (c ++ e) cube_half_spaces l);
}

-- a point in the weak system of both together is in that of the first
first_weak : (c e : List HalfSpace) (p : RationalPoint) → IsWeak (with_cube (c ++ e)) p → IsWeak (with_cube c) p
first_weak c e p u = record {
  point = u.point;
  sides = λ h l. ⊎_elim
      (λ i. u.sides h (listed_left h (c ++ e) cube_half_spaces (listed_left h c e i)))
      (λ i. u.sides h (listed_right h (c ++ e) cube_half_spaces i))
      (listed_cases h c cube_half_spaces l);
}

-- and in that of the second
second_weak : (c e : List HalfSpace) (p : RationalPoint) → IsWeak (with_cube (c ++ e)) p → IsWeak (with_cube e) p
second_weak c e p u = record {
  point = u.point;
  sides = λ h l. ⊎_elim
      (λ i. u.sides h (listed_left h (c ++ e) cube_half_spaces (listed_right h c e i)))
      (λ i. u.sides h (listed_right h (c ++ e) cube_half_spaces i))
      (listed_cases h e cube_half_spaces l);
}

-- a point of the weak system is near the cell
pub near_of_weak : (c : List HalfSpace) → AreHalfSpaces c → IsNonempty (shape_of_cell c) → (p : RationalPoint) → IsWeak (with_cube c) p → IsNear (shape_of_cell c) p
near_of_weak c k n p w = (near_cell_is_weak_spec c k n p).1 (w.point, weak_true (with_cube c) p w)

-- a point near the cell is in its weak system
pub weak_of_near : (c : List HalfSpace) → AreHalfSpaces c → IsNonempty (shape_of_cell c) → (p : RationalPoint) → IsNear (shape_of_cell c) p → IsWeak (with_cube c) p
weak_of_near c k n p m = let (w, e) = (near_cell_is_weak_spec c k n p).0 m in weak_is (with_cube c) p w e

-- two cells with a member are in contact exactly where the weak system of both together has a point
pub contact_is_solution : (c e : List HalfSpace) → AreHalfSpaces c → AreHalfSpaces e → IsNonempty (shape_of_cell c) → IsNonempty (shape_of_cell e)
    → IsInContact (shape_of_cell c) (shape_of_cell e) ↔ ((p : RationalPoint) × IsSolution false (c ++ e) p)
contact_is_solution c e kc ke nc ne = (
  λ (p, n, m). let w = both_weak c e p (weak_of_near c kc nc p n) (weak_of_near e ke ne p m) in (p, (w.point, weak_true (with_cube (c ++ e)) p w)),
  λ (p, (w, k)).
      let u = weak_is (with_cube (c ++ e)) p w k in
      (p, near_of_weak c kc nc p (first_weak c e p u), near_of_weak e ke ne p (second_weak c e p u)),
)

-- the law
pub contact_is_found_spec : ContactIsFound
contact_is_found_spec c e kc ke nc ne =
    let found = (weak_point_is_found_spec (c ++ e) (both_bounded c e kc ke)).some in
    let solution = contact_is_solution c e kc ke nc ne in
    (λ k. found.1 (solution.0 k), λ s. solution.1 (found.0 s))
