use Rattle.std.proofs.Common.{rules, FitsSigned, to_z, of_z}
use Rattle.std.proofs.lemmas.Int.{to_z-of_z}
use Rattle.std.proofs.lemmas.Result.{err_from_is_err_and}
use mir.Syntax.{w32}
use Rattle.rp_semantics.specs.Walk.{first_tester}
use Rattle.rp_semantics.specs.Form.{prism_form}
use Rattle.rp_space.specs.Corners.{prism_of}
use Rattle.rp_footprint.proofs.Cells.{edge_there, no_edge_there}
use Rattle.rp_region.proofs.Left.{whole_as}
use Rattle.rp_region.proofs.Prisms.{edge_drawn, edge_failed, edges_end, drawn_members}
use Rattle.rp_region.proofs.region.Region.of_prism.Goals as goal

pub returns-in_err-current-clause-makes : goal.returns-in_err-current-clause-makes
returns-in_err-current-clause-makes c =
    let p = err_from_is_err_and c.from_residual.result c.from_residual.ensures.1 in
    let z1 : FitsSigned w32 c.args.z1 = search rules in
    let z2 : FitsSigned w32 c.args.z2 = search rules in
    let corners = c.args.corners.now in
    rw (p.1, p.2)
    (edge_failed (prism_of (to_z w32 (of_z w32 c.args.z1)) (to_z w32 (of_z w32 c.args.z2)) corners) c.loop-k.current c.loop-k.k c.trapezoid-cell.result (edge_there corners c.loop-k.k c.loop-k-test.true)
    c.trapezoid-cell.ensures
    (whole_as (λ i. prism_form first_tester (prism_of (to_z-of_z w32 c.args.z1 z1 i) (to_z-of_z w32 c.args.z2 z2 i) corners)) c.loop-k.invariant)
    c.in_err-current.field-0.0 c.exchange_cell.new.work c.in_err-current.ensures)

pub loop-k-preserved : goal.loop-k-preserved
loop-k-preserved c =
    let corners = c.args.corners.now in
    edge_drawn (prism_of (to_z w32 (of_z w32 c.args.z1)) (to_z w32 (of_z w32 c.args.z2)) corners) c.loop-k.current c.in_ok-current.current c.loop-k.k c.trapezoid-cell.result (edge_there corners c.loop-k.k c.loop-k-test.true)
    c.trapezoid-cell.ensures c.loop-k.invariant c.in_ok-current.ensures

pub returns-clause-makes : goal.returns-clause-makes
returns-clause-makes c =
    let z1 : FitsSigned w32 c.args.z1 = search rules in
    let z2 : FitsSigned w32 c.args.z2 = search rules in
    let corners = c.args.corners.now in
    edges_end (prism_of (to_z w32 (of_z w32 c.args.z1)) (to_z w32 (of_z w32 c.args.z2)) corners) c.loop-k.current c.loop-k.k (no_edge_there corners c.loop-k.k c.loop-k-test.false)
    (whole_as (λ i. prism_form first_tester (prism_of (to_z-of_z w32 c.args.z1 z1 i) (to_z-of_z w32 c.args.z2 z2 i) corners)) c.loop-k.invariant)

pub returns-clause-members : goal.returns-clause-members
returns-clause-members c = drawn_members (prism_of c.args.z1 c.args.z2 c.args.corners.now) c.requires c.loop-k.current c.args.work.now c.loop-k.work (returns-clause-makes c)
