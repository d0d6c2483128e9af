use Rattle.std.proofs.Common.{rules, FitsSigned, to_z, of_z}
use Rattle.std.proofs.lemmas.Int.{to_z-of_z}
use Rattle.std.proofs.lemmas.Result.{err_from_is_err_and}
use mir.Syntax.{w32}
use Rattle.rp_semantics.specs.Form.{prism_form}
use Rattle.rp_reports.specs.Check.{line_tester}
use Rattle.rp_space.specs.Corners.{prism_of}
use Rattle.rp_footprint.proofs.Cells.{edge_there, no_edge_there}
use Rattle.rp_oracle.proofs.Left.{whole_as}
use Rattle.rp_trail.proofs.Prisms.{edge_drawn, edge_stops, edges_end, drawn_of}
use Rattle.rp_trail.proofs.prism.prismed.Goals as goal

pub returns-in_err-current-clause-comes : goal.returns-in_err-current-clause-comes
returns-in_err-current-clause-comes c =
    let p = err_from_is_err_and c.from_residual.result c.from_residual.ensures.1 in
    let z1 : FitsSigned w32 c.args.z1 = search rules in
    let z2 : FitsSigned w32 c.args.z2 = search rules in
    let corners = c.args.corners.now in
    rw (p.1, p.2)
    (edge_stops (prism_of (to_z w32 (of_z w32 c.args.z1)) (to_z w32 (of_z w32 c.args.z2)) corners) c.loop-k.current.items c.loop-k.k c.trapezoid-cell.result (edge_there corners c.loop-k.k c.loop-k-test.true)
    c.trapezoid-cell.ensures
    (whole_as (λ i. prism_form line_tester (prism_of (to_z-of_z w32 c.args.z1 z1 i) (to_z-of_z w32 c.args.z2 z2 i) corners)) c.loop-k.invariant)
    c.in_err-current.field-0.0 c.exchange_cell.new.trail c.in_err-current.ensures)

pub loop-k-preserved : goal.loop-k-preserved
loop-k-preserved c =
    let corners = c.args.corners.now in
    edge_drawn (prism_of (to_z w32 (of_z w32 c.args.z1)) (to_z w32 (of_z w32 c.args.z2)) corners) c.loop-k.current.items c.in_ok-current.current.items c.loop-k.k c.trapezoid-cell.result (edge_there corners c.loop-k.k c.loop-k-test.true)
    c.trapezoid-cell.ensures c.loop-k.invariant c.in_ok-current.ensures

pub returns-clause-comes : goal.returns-clause-comes
returns-clause-comes c =
    let z1 : FitsSigned w32 c.args.z1 = search rules in
    let z2 : FitsSigned w32 c.args.z2 = search rules in
    let corners = c.args.corners.now in
    edges_end (prism_of (to_z w32 (of_z w32 c.args.z1)) (to_z w32 (of_z w32 c.args.z2)) corners) c.loop-k.current.items c.loop-k.k (no_edge_there corners c.loop-k.k c.loop-k-test.false)
    (whole_as (λ i. prism_form line_tester (prism_of (to_z-of_z w32 c.args.z1 z1 i) (to_z-of_z w32 c.args.z2 z2 i) corners)) c.loop-k.invariant)

pub returns-clause-members : goal.returns-clause-members
returns-clause-members c = drawn_of (prism_of c.args.z1 c.args.z2 c.args.corners.now) c.requires c.loop-k.current.items c.args.trail.now c.loop-k.trail (returns-clause-comes c)
