use Rattle.std.proofs.Common.{◌≡◌, ◌++◌, take}
use Rattle.rp_reports.specs.Text.{proof_text}
use Rattle.rp_cert.specs.Lines.{line_of}
use Rattle.rp_text.specs.LineTexts.{lines_text}
use Rattle.rp_text.proofs.proof.write_proofs.Given as goal

-- the lines so far were appended
abbrev pub invariant-loop-proof : goal.invariant-loop-proof
invariant-loop-proof l = l.out.items ≡ l.fn.out.items ++ lines_text (λ p. proof_text (line_of p)) (take l.proof-index l.proofs)
