use Rattle.std.proofs.Common.{◌≤◌, drop}
use Rattle.rp_text.specs.LineTexts.{lines_text}
use Rattle.rp_scripts.proofs.SinkLemmas.{HasPut}
use Rattle.rp_scripts.proofs.answer.put_each.Given as goal

-- the lines so far were put
abbrev pub invariant-loop-line : goal.invariant-loop-line
invariant-loop-line g l =
    (g.K.Sink.faults l.fn.sink ≤ g.K.Sink.faults l.sink)
    × HasPut (g.K.Sink.said l.fn.sink) (g.K.Sink.said l.sink) (lines_text g.T.WriteText.text l.lines) (lines_text g.T.WriteText.text (drop l.line-index l.lines))
