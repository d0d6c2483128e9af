use Rattle.std.proofs.Common.{sym}
use Rattle.std.proofs.lemmas.Result.{err_from_is_err_and}
use Rattle.rp_command.proofs.Fronts.{front_before}
use Rattle.rp_text.specs.Operands.{operands_text}
use Rattle.rp_answer.specs.Views.{verdict_of}
use Rattle.rp_text.proofs.FrontLemmas.{front_same, writes_behind, writes_same}
use Rattle.rp_text.proofs.verdict.VerdictWriteText.write_text.Goals as goal

pub returns-in_err-append : goal.returns-in_err-append
returns-in_err-append c =
    let p = err_from_is_err_and c.from_residual.result c.from_residual.ensures.1 in
    let old = c.args.out.now.items in
    let new = c.append.new.out.items in
    rw (p.1)
    (front_same old new _ _ (sym c.verdict_word.ensures) (front_before old new c.verdict_word.result.now (operands_text (verdict_of c.args.self.now)) c.in_err-append.ensures))

pub returns : goal.returns
returns c =
    let old = c.args.out.now.items in
    let new = c.write_verdict_operands.new.out.items in
    writes_same c.write_verdict_operands.result old new _ _ (sym c.verdict_word.ensures)
    (writes_behind c.write_verdict_operands.result old c.append.new.out.items new c.verdict_word.result.now (operands_text (verdict_of c.args.self.now)) c.in_ok-append.ensures c.write_verdict_operands.ensures)
