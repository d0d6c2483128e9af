use Rattle.std.proofs.Common.{◌∷◌, []}
use Rattle.std.proofs.lemmas.Result.{err_from_is_err_and}
use Rattle.rp_language.specs.Grammar.{space}
use Rattle.rp_reports.specs.Text.{term_text}
use Rattle.rp_command.proofs.Fronts.{front_before}
use Rattle.rp_text.proofs.FrontLemmas.{writes_behind}
use Rattle.rp_text.proofs.proof.write_spaced_term.Goals as goal

pub returns-in_err-append_byte : goal.returns-in_err-append_byte
returns-in_err-append_byte c =
    let p = err_from_is_err_and c.from_residual.result c.from_residual.ensures.1 in
    rw (p.1) (front_before c.args.out.now.items c.append_byte.new.out.items (space ∷ []) (term_text c.args.term.now) c.in_err-append_byte.ensures)

pub returns : goal.returns
returns c =
    writes_behind c.write_term.result c.args.out.now.items c.append_byte.new.out.items c.write_term.new.out.items (space ∷ []) (term_text c.args.term.now) c.in_ok-append_byte.ensures c.write_term.ensures
