use Rattle.std.proofs.Common.{◌≡◌, ◌++◌, false, Some}
use Rattle.rp_algebra.proofs.Listed.{all_append}
use Rattle.rp_algebra.proofs.Options.{of_some}
use Rattle.rp_geometry.specs.Geometry.{RationalPoint, IsHalfSpace}
use Rattle.rp_geometry.specs.searches.Elimination.{first_outside}
use Rattle.rp_geometry.specs.searches.ProofLine.{weak_line, apart_line}
use Rattle.rp_geometry.specs.laws.CellLaws.{IsSolution}
use Rattle.rp_cell.proofs.Answered.{if_some, line_of_apart, weak_solution_of}
use Rattle.rp_cell.proofs.decide.refute_weak_between.Goals as goal

pub first_outside_between-requires-clause-first : goal.first_outside_between-requires-clause-first
first_outside_between-requires-clause-first c = weak_solution_of c.args.first.now c.keep_bounds.ensures c.requires.first

pub first_outside_between-requires-clause-second : goal.first_outside_between-requires-clause-second
first_outside_between-requires-clause-second c = weak_solution_of c.args.second.now c.keep_bounds-2.ensures c.requires.second

pub returns : goal.returns
returns c =
    let cell = c.args.first.now ++ c.args.second.now in
    let bounds = all_append IsHalfSpace c.args.first.now c.args.second.now c.keep_bounds.ensures c.keep_bounds-2.ensures in
    let found = c.first_outside_between.ensures in
    if_some (λ terms. first_outside false cell ≡ Some terms) (λ terms. apart_line terms ≡ weak_line cell) c.first_outside_between.result
    (λ terms is first. line_of_apart cell terms bounds (of_some (λ _. (p : RationalPoint) → ¬ IsSolution false cell p) c.first_outside_between.result terms is found.none) first) found.first
