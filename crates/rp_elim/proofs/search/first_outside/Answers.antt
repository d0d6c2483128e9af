use Rattle.std.proofs.Common.{ap, ◌∙◌, List}
use Rattle.rp_geometry.specs.Geometry.{HalfSpace}
use Rattle.rp_geometry.specs.searches.Elimination.{first_refutation, first_outside}
use Rattle.rp_elim.proofs.Found.{found_passes, none_where_solution}
use Rattle.rp_elim.proofs.search.first_outside.Goals as goal

pub returns-clause-first : goal.returns-clause-first
unfolding first_outside
returns-clause-first c =
    c.if_found.ensures ∙ c.first_refutation-is_found.ensures ∙ ap (λ (hs : List HalfSpace). first_refutation c.args.strict hs) (c.as_slice.ensures.value ∙ c.with_cube-system.ensures.items)

pub returns-clause-passes : goal.returns-clause-passes
returns-clause-passes c = found_passes c.args.strict c.args.cell.now c.with_cube-system.ensures.bounds c.if_found.result (returns-clause-first c)

pub returns-clause-none : goal.returns-clause-none
returns-clause-none c = none_where_solution c.args.strict c.args.cell.now c.with_cube-system.ensures.bounds c.if_found.result (returns-clause-first c)
