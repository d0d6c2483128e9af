use Rattle.std.proofs.Common.{◌≡◌, Some}
use Rattle.std.specs.Prelude.{IsTrue}
use Rattle.rp_algebra.proofs.Options.{of_some}
use Rattle.rp_geometry.specs.searches.Certificate.{is_inside_certificate}
use Rattle.rp_geometry.specs.searches.Vertex.{first_inside}
use Rattle.rp_convex.proofs.Certified.{inside_certificate_shows_member_spec}
use Rattle.rp_cell.proofs.Answered.{line_inside}
use Rattle.rp_cell.proofs.decide.try_decide_strict.Goals as goal

first : (c : goal.In-Some) → first_inside c.args.cell.now ≡ Some c.in-Some.points
first c = of_some (λ points. first_inside c.args.cell.now ≡ Some points) c.inside_on_polygons.result c.in-Some.points c.in-Some.is c.inside_on_polygons.ensures.first

pub returns-in-Some-clause-decides : goal.returns-in-Some-clause-decides
returns-in-Some-clause-decides c =
    let passes = of_some (λ points. IsTrue (is_inside_certificate c.args.cell.now points)) c.inside_on_polygons.result c.in-Some.points c.in-Some.is c.inside_on_polygons.ensures.passes in
    (first c, passes, inside_certificate_shows_member_spec c.args.cell.now c.in-Some.points passes)

pub returns-in-Some-clause-line : goal.returns-in-Some-clause-line
returns-in-Some-clause-line c = line_inside c.args.cell.now c.in-Some.points (first c)
