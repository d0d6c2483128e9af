use Rattle.std.proofs.Common.{Bool, subst}
use Rattle.rp_vertex.specs.Line.{Cuts}
use Rattle.rp_vertex.proofs.Lines.{empty_holds, span_holds}
use Rattle.rp_vertex.proofs.line.clipped.Goals as goal

pub returns-then-not-cut : goal.returns-then-not-cut
returns-then-not-cut c =
    empty_holds c.args.system.now c.args.pair.now
    (subst (λ (is_left : Bool). Cuts c.args.pair.now c.half-h.result.now c.loop-rank.span c.cut.new.span is_left) c.if-not-cut.true c.cut.ensures
    c.args.system.now c.half-h.ensures c.loop-rank.invariant)

pub loop-rank-preserved : goal.loop-rank-preserved
loop-rank-preserved c =
    subst (λ (is_left : Bool). Cuts c.args.pair.now c.half-h.result.now c.loop-rank.span c.cut.new.span is_left) c.if-not-cut.false c.cut.ensures
    c.args.system.now c.half-h.ensures c.loop-rank.invariant

pub returns : goal.returns
returns c = span_holds c.args.system.now c.args.pair.now c.loop-rank.span c.loop-rank.invariant
