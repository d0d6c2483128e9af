use Rattle.std.proofs.Common.{sym, ◌∙◌, ap}
use Rattle.std.specs.Prelude.{IsTrue, is_some}
use Rattle.rp_algebra.proofs.Options.{of_some}
use Rattle.rp_geometry.specs.searches.Certificate.{is_inside_certificate}
use Rattle.rp_convex.proofs.Certified.{inside_certificate_shows_member_spec}
use Rattle.rp_cell.proofs.Answered.{line_inside}
use Rattle.rp_cell.proofs.decide.search_strict.Goals as goal

pub refute_strict-requires-clause-empty : goal.refute_strict-requires-clause-empty
refute_strict-requires-clause-empty c = c.first_inside.ensures.none.0 (ap is_some c.in-None.is)

pub returns-in-Some-clause-decides : goal.returns-in-Some-clause-decides
returns-in-Some-clause-decides c =
    let passes = of_some (λ points. IsTrue (is_inside_certificate c.args.cell.now points)) c.first_inside.result c.in-Some.points c.in-Some.is c.first_inside.ensures.passes in
    (sym c.first_inside.ensures.first ∙ c.in-Some.is, passes, inside_certificate_shows_member_spec c.args.cell.now c.in-Some.points passes)

pub returns-in-Some-clause-line : goal.returns-in-Some-clause-line
returns-in-Some-clause-line c = line_inside c.args.cell.now c.in-Some.points (sym c.first_inside.ensures.first ∙ c.in-Some.is)

pub returns-in-None-clause-decides : goal.returns-in-None-clause-decides
returns-in-None-clause-decides c = (c.refute_strict.ensures.first, c.refute_strict.ensures.passes, c.first_inside.ensures.none.0 (ap is_some c.in-None.is))
