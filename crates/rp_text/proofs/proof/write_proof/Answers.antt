use Rattle.std.proofs.Common.{◌∷◌, []}
use Rattle.std.proofs.lemmas.Result.{err_from_is_err_and}
use Rattle.rp_cert.specs.Lines.{line_of}
use Rattle.rp_reports.specs.Text.{line_end, proof_text}
use Rattle.rp_command.proofs.Fronts.{front_before}
use Rattle.rp_text.proofs.FrontLemmas.{writes_behind}
use Rattle.rp_text.proofs.proof.write_proof.Goals as goal

pub returns-in_err-write_proof_text : goal.returns-in_err-write_proof_text
returns-in_err-write_proof_text c =
    let p = err_from_is_err_and c.from_residual.result c.from_residual.ensures.1 in
    rw (p.1) (front_before c.args.out.now.items c.write_proof_text.new.out.items (proof_text (line_of c.args.proof.now)) (line_end ∷ []) c.in_err-write_proof_text.ensures)

pub returns : goal.returns
returns c =
    writes_behind c.append_byte.result c.args.out.now.items c.write_proof_text.new.out.items c.append_byte.new.out.items (proof_text (line_of c.args.proof.now)) (line_end ∷ []) c.in_ok-write_proof_text.ensures c.append_byte.ensures
