use Rattle.std.proofs.Common.{◌≡◌, List, Some, ap, sym, ◌∙◌}
use Rattle.std.specs.Prelude.{IsTrue}
use Rattle.rp_algebra.proofs.Options.{if_some}
use Rattle.rp_geometry.specs.Geometry.{RationalPoint, HalfSpace}
use Rattle.rp_geometry.specs.searches.Certificate.{Multiple, is_outside_certificate}
use Rattle.rp_geometry.specs.searches.Elimination.{first_outside}
use Rattle.rp_geometry.specs.laws.CellLaws.{IsSolution}
use Rattle.rp_elim.specs.FewTerms.{first_of_two}
use Rattle.rp_elim.proofs.FewTerms.{few_are_first, few_pass, few_leave_none}
use Rattle.rp_elim.proofs.search.first_outside_of_two.Goals as goal

pub returns-clause-found : goal.returns-clause-found
returns-clause-found c =
    c.if_found.ensures ∙ c.first_of_two-is_found.ensures ∙ ap (λ (hs : List HalfSpace). first_of_two c.args.strict hs) (c.as_slice.ensures.value ∙ c.with_cube-system.ensures.items)

-- it is the first of all
first : (c : goal.After-if_found) (terms : List Multiple) → c.if_found.result ≡ Some terms → first_outside c.args.strict c.args.cell.now ≡ Some terms
first c terms e = few_are_first c.args.strict c.args.cell.now terms (sym (returns-clause-found c) ∙ e)

pub returns-clause-first : goal.returns-clause-first
returns-clause-first c = if_some (λ terms. first_outside c.args.strict c.args.cell.now ≡ Some terms) c.if_found.result (first c)

pub returns-clause-passes : goal.returns-clause-passes
returns-clause-passes c =
    if_some (λ terms. IsTrue (is_outside_certificate c.args.strict c.args.cell.now terms)) c.if_found.result (
    λ terms e. few_pass c.args.strict c.args.cell.now c.with_cube-system.ensures.bounds terms (first c terms e)
    )

pub returns-clause-none : goal.returns-clause-none
returns-clause-none c =
    if_some (λ terms. (p : RationalPoint) → ¬ IsSolution c.args.strict c.args.cell.now p) c.if_found.result (
    λ terms e. few_leave_none c.args.strict c.args.cell.now c.with_cube-system.ensures.bounds terms (first c terms e)
    )
