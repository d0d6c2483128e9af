use Rattle.std.proofs.Common.{◌≡◌, [], ◌∷◌, ◌++◌, true, List, Some, sym, ap, subst}
use Rattle.rp_algebra.proofs.Listed.{all_append}
use Rattle.rp_algebra.proofs.Options.{of_some}
use Rattle.rp_geometry.specs.Geometry.{RationalPoint, HalfSpace, IsHalfSpace}
use Rattle.rp_geometry.specs.laws.CellLaws.{IsSolution}
use Rattle.rp_geometry.specs.sets.Shape.{shape_of_cell}
use Rattle.rp_geometry.specs.sets.Sets.{IsNonempty}
use Rattle.rp_geometry.specs.searches.Elimination.{first_outside}
use Rattle.rp_geometry.specs.searches.ProofLine.{strict_line, out_line}
use Rattle.rp_convex.proofs.Inside.{member_moves_inside_spec}
use Rattle.rp_cell.proofs.Answered.{if_some, empty_without_solution, line_of_empty}
use Rattle.rp_cell.proofs.held.Held.refute_with_next.Goals as goal

pub first_outside_with_last-requires : goal.first_outside_with_last-requires
first_outside_with_last-requires c =
    let cell = c.halves-cell.result.now in
    member_moves_inside_spec cell c.keep_bounds.ensures (subst (λ (hs : List HalfSpace). IsNonempty (shape_of_cell hs)) (sym c.halves-cell.ensures.value) (c.has_point.ensures c.if-not-has_point.false))

pub returns : goal.returns
returns c =
    let half = c.args.half.now in
    let list = c.halves-cell.result.now ++ half ∷ [] in
    let same : list ≡ c.args.self.now ++ half ∷ [] = ap (λ (hs : List HalfSpace). hs ++ half ∷ []) c.halves-cell.ensures.value in
    let bounds = all_append IsHalfSpace c.halves-cell.result.now (half ∷ []) c.keep_bounds.ensures (subst (λ (h : HalfSpace). IsHalfSpace h) c.numbers.ensures.numbers c.numbers.ensures.small, tt) in
    let o = c.first_outside_with_last.result in
    let found = c.first_outside_with_last.ensures in
    if_some (λ terms. first_outside true list ≡ Some terms) (λ terms. out_line terms ≡ strict_line (c.args.self.now ++ half ∷ [])) o
    (λ terms is first.
    subst (λ (hs : List HalfSpace). out_line terms ≡ strict_line hs) same
    (line_of_empty list terms bounds (empty_without_solution list bounds (of_some (λ _. (p : RationalPoint) → ¬ IsSolution true list p) o terms is found.none)) first)) found.first
