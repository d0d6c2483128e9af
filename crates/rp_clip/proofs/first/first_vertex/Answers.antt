use Rattle.std.proofs.Common.{subst}
use Rattle.std.specs.Prelude.{Option}
use Rattle.rp_clip.specs.declared.first.Found.{Found}
use Rattle.rp_clip.proofs.Best.{IsBest, best_none, owes_vertex, best_row, best_is_first, none_off}
use Rattle.rp_clip.proofs.Off.{none_here}
use Rattle.rp_clip.proofs.first.first_vertex.Goals as goal

pub loop-i-init : goal.loop-i-init
loop-i-init g c = best_none c.args.planes.now c.args.set c.args.table.now.points

pub better-best-requires : goal.better-best-requires
better-best-requires g c = owes_vertex c.args.planes.now c.args.set c.args.table.now c.planes-masks.result.now c.loop-i.i c.requires c.planes-masks.ensures.value c.loop-i-test.true

pub loop-i-preserved : goal.loop-i-preserved
loop-i-preserved g c =
    best_row c.args.planes.now c.args.table.now c.planes-masks.result.now c.args.set c.loop-i.i c.loop-i.best c.better-best.result c.requires c.planes-masks.ensures.value
    c.loop-i-test.true c.loop-i.invariant c.better-best.ensures

pub returns-in_err-found-clause-none : goal.returns-in_err-found-clause-none
returns-in_err-found-clause-none g c =
    none_here c.from_residual.result c.from_residual.ensures
    (none_off c.args.planes.now c.args.table.now c.planes-masks.result.now c.args.set c.loop-i.i c.requires c.planes-masks.ensures.value c.loop-i-test.false
    (subst (λ (o : Option Found). IsBest c.args.planes.now c.args.set c.args.table.now.points c.loop-i.i o) c.in_err-found.was c.loop-i.invariant))

pub returns-clause-some : goal.returns-clause-some
returns-clause-some g c =
    best_is_first c.args.planes.now c.args.table.now c.planes-masks.result.now c.args.set c.loop-i.i c.in_ok-found.found c.requires c.planes-masks.ensures.value c.loop-i-test.false
    (subst (λ (o : Option Found). IsBest c.args.planes.now c.args.set c.args.table.now.points c.loop-i.i o) c.in_ok-found.was c.loop-i.invariant)
