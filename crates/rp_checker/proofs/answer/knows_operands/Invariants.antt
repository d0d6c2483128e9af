use Rattle.std.proofs.Common.{◌≡◌, drop}
use Rattle.std.specs.Prelude.{is_none}
use Rattle.std.specs.List.{flat_map}
use Rattle.rp_language.specs.Expression.{first_unknown_among}
use Rattle.rp_model.specs.states.State.{parts_in}
use Rattle.rp_checker.specs.Limits.{expressions_of_operand}
use Rattle.rp_checker.proofs.answer.knows_operands.Given as goal

-- what is missing of the operands still to come is missing of all
abbrev pub invariant-loop-operand : goal.invariant-loop-operand
invariant-loop-operand l =
    is_none (first_unknown_among (parts_in l.register) (flat_map expressions_of_operand (drop l.operand-index l.operands)))
    ≡ is_none (first_unknown_among (parts_in l.register) (flat_map expressions_of_operand l.operands))
