use Rattle.std.proofs.Common.{◌≡◌, Bool, true, false, ◌&&◌, ◌+◌, ◌<◌, length, drop, sym, ap, ◌∙◌, arith}
use Rattle.std.specs.Prelude.{is_none}
use Rattle.std.specs.List.{flat_map}
use Rattle.rp_language.specs.Expression.{first_unknown_among}
use Rattle.rp_model.specs.states.State.{parts_in}
use Rattle.rp_checker.specs.Limits.{expressions_of_operand}
use Rattle.rp_checker.proofs.Limits.{first_and_others}
use Rattle.rp_checker.proofs.answer.knows_operands.Goals as goal

pub returns-then-not-knows_operand : goal.returns-then-not-knows_operand
returns-then-not-knows_operand c =
    let m = parts_in c.args.register.now in
    let i = c.loop-operand.operand-index in
    let operands = c.args.operands.now in
    let others = is_none (first_unknown_among m (flat_map expressions_of_operand (drop (i + 1) operands))) in
    ap (λ known. known && others) (sym c.if-not-knows_operand.true ∙ c.knows_operand.ensures) ∙ sym (first_and_others m operands i c.operand-item.result c.loop-operand-test.true c.operand-item.is) ∙ c.loop-operand.invariant

pub loop-operand-preserved : goal.loop-operand-preserved
loop-operand-preserved c =
    let m = parts_in c.args.register.now in
    let i = c.loop-operand.operand-index in
    let operands = c.args.operands.now in
    let others = is_none (first_unknown_among m (flat_map expressions_of_operand (drop (i + 1) operands))) in
    ap (λ known. known && others) (sym c.if-not-knows_operand.false ∙ c.knows_operand.ensures) ∙ sym (first_and_others m operands i c.operand-item.result c.loop-operand-test.true c.operand-item.is) ∙ c.loop-operand.invariant
