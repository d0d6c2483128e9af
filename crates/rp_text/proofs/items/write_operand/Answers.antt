use Rattle.std.proofs.Common.{◌∷◌}
use Rattle.std.proofs.lemmas.Result.{err_from_is_err_and}
use Rattle.rp_language.specs.Grammar.{space}
use Rattle.rp_command.proofs.Fronts.{front_before}
use Rattle.rp_text.proofs.FrontLemmas.{writes_behind}
use Rattle.rp_text.proofs.items.write_operand.Goals as goal

pub returns-in_err-append : goal.returns-in_err-append
returns-in_err-append g c =
    let p = err_from_is_err_and c.from_residual.result c.from_residual.ensures.1 in
    rw (p.1) (front_before c.args.out.now.items c.append.new.out.items c.args.word.now (space ∷ g.T.WriteText.text c.args.operand.now) c.in_err-append.ensures)

pub returns : goal.returns
returns g c =
    writes_behind c.write_item.result c.args.out.now.items c.append.new.out.items c.write_item.new.out.items c.args.word.now (space ∷ g.T.WriteText.text c.args.operand.now) c.in_ok-append.ensures c.write_item.ensures
