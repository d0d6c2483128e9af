use Rattle.std.proofs.lemmas.Result.{err_from_is_err_and}
use Rattle.rp_reports.specs.Text.{items_text, term_text}
use Rattle.rp_command.proofs.Fronts.{front_before}
use Rattle.rp_text.proofs.FrontLemmas.{writes_behind}
use Rattle.rp_text.proofs.proof.write_word_terms.Goals as goal

pub returns-in_err-append : goal.returns-in_err-append
returns-in_err-append c =
    let p = err_from_is_err_and c.from_residual.result c.from_residual.ensures.1 in
    rw (p.1) (front_before c.args.out.now.items c.append.new.out.items c.args.word.now (items_text term_text c.args.terms.now) c.in_err-append.ensures)

pub returns : goal.returns
returns c =
    writes_behind c.write_terms.result c.args.out.now.items c.append.new.out.items c.write_terms.new.out.items c.args.word.now (items_text term_text c.args.terms.now) c.in_ok-append.ensures c.write_terms.ensures
