use Rattle.std.proofs.Common.{◌∷◌}
use Rattle.std.specs.Fmt.{decimal}
use Rattle.std.proofs.lemmas.Result.{err_from_is_err_and}
use Rattle.rp_language.specs.Grammar.{space}
use Rattle.rp_command.proofs.Fronts.{front_before}
use Rattle.rp_text.proofs.FrontLemmas.{writes_behind}
use Rattle.rp_text.proofs.verdict.write_level.Goals as goal

pub returns-in_err-write_item : goal.returns-in_err-write_item
returns-in_err-write_item c =
    let p = err_from_is_err_and c.from_residual.result c.from_residual.ensures.1 in
    rw (p.1) (front_before c.args.out.now.items c.write_item.new.out.items (space ∷ decimal c.args.steps) (space ∷ c.args.name.now) c.in_err-write_item.ensures)

pub returns : goal.returns
returns c =
    writes_behind c.write_item-2.result c.args.out.now.items c.write_item.new.out.items c.write_item-2.new.out.items (space ∷ decimal c.args.steps) (space ∷ c.args.name.now) c.in_ok-write_item.ensures c.write_item-2.ensures
