use Rattle.std.proofs.Common.{arith}
use Rattle.rp_scripts.proofs.SinkLemmas.{HasPut-front, HasPut-more, OnErr-holds}
use Rattle.rp_scripts.proofs.output.put_lines.Goals as goal

pub loop-rest-preserved : goal.loop-rest-preserved
loop-rest-preserved g c = (
  omega (arith, c.loop-rest.invariant.0, c.in_ok-put.ensures.counts),
  HasPut-more (g.K.Sink.said c.args.sink.now) (g.K.Sink.said c.loop-rest.sink) (g.K.Sink.said c.put.new.self) c.args.text.now c.loop-rest.rest.now c.split_line.result.0.now c.split_line.result.1.now c.loop-rest.invariant.1 c.split_line.ensures.whole c.in_ok-put.ensures.ok,
)

pub returns-in_err-put-clause-front : goal.returns-in_err-put-clause-front
returns-in_err-put-clause-front g c =
    OnErr-holds c.from_residual.result
    (HasPut-front (g.K.Sink.said c.args.sink.now) (g.K.Sink.said c.loop-rest.sink) (g.K.Sink.said c.put.new.self) c.args.text.now c.loop-rest.rest.now c.split_line.result.0.now c.split_line.result.1.now
    c.loop-rest.invariant.1 c.split_line.ensures.whole c.in_err-put.ensures.err)
