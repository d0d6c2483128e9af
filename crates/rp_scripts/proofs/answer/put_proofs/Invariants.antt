use Rattle.std.proofs.Common.{◌≤◌, drop}
use Rattle.rp_cert.specs.Lines.{line_of}
use Rattle.rp_reports.specs.Text.{proof_text}
use Rattle.rp_text.specs.LineTexts.{lines_text}
use Rattle.rp_scripts.proofs.SinkLemmas.{HasPut}
use Rattle.rp_scripts.proofs.answer.put_proofs.Given as goal

-- the lines so far were put
abbrev pub invariant-loop-proof : goal.invariant-loop-proof
invariant-loop-proof g l =
    (g.K.Sink.faults l.fn.sink ≤ g.K.Sink.faults l.sink)
    × HasPut (g.K.Sink.said l.fn.sink) (g.K.Sink.said l.sink) (lines_text (λ p. proof_text (line_of p)) l.proofs) (lines_text (λ p. proof_text (line_of p)) (drop l.proof-index l.proofs))
