use Rattle.std.proofs.Common.{◌≤◌, length}
use Rattle.rp_scripts.proofs.SinkLemmas.{HasPut}
use Rattle.rp_scripts.proofs.output.put_lines.Given as goal

abbrev pub invariant-loop-rest : goal.invariant-loop-rest
invariant-loop-rest g l =
    (g.K.Sink.faults l.fn.sink ≤ g.K.Sink.faults l.sink)
    × HasPut (g.K.Sink.said l.fn.sink) (g.K.Sink.said l.sink) l.fn.text l.rest

abbrev pub decreases-loop-rest : goal.decreases-loop-rest
decreases-loop-rest g l = length l.rest
