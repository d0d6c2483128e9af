use Rattle.std.proofs.Common.{◌∙◌}
use Rattle.rp_text.proofs.ProofLaws.{proof_is_read}
use Rattle.rp_text.proofs.proof_line.read_proof.Goals as goal

pub returns : goal.returns
returns c = c.proof.ensures ∙ proof_is_read c.args.line.now
