use Rattle.std.proofs.Common.{Bool, ◌&&◌, List, sym, ap, ◌∙◌}
use Rattle.std.specs.Prelude.{is_none}
use Rattle.rp_command.specs.Views.{command_of}
use Rattle.rp_language.specs.Expression.{Expression, first_unknown_among, expressions_of}
use Rattle.rp_model.specs.states.State.{parts_in}
use Rattle.rp_checker.proofs.Limits.{command_expressions, can_by_verb}
use Rattle.rp_checker.proofs.answer.limit_allowed.Goals as goal

pub returns-then-may_meet_limit : goal.returns-then-may_meet_limit
returns-then-may_meet_limit c =
    let m = parts_in c.args.register.now in
    let command = command_of c.args.command.now in
    let known = is_none (first_unknown_among m (expressions_of command)) in
    c.knows_operands.ensures
    ∙ ap (λ (es : List Expression). is_none (first_unknown_among m es)) (sym (command_expressions command c.operands.result c.operands.ensures))
    ∙ ap (λ (can : Bool). can && known) (c.if-may_meet_limit.ensures ∙ can_by_verb command c.verb.result c.verb.ensures)

pub returns-else-may_meet_limit : goal.returns-else-may_meet_limit
returns-else-may_meet_limit c =
    let m = parts_in c.args.register.now in
    let command = command_of c.args.command.now in
    let known = is_none (first_unknown_among m (expressions_of command)) in
    c.if-may_meet_limit.false ∙ ap (λ (can : Bool). can && known) (c.if-may_meet_limit.ensures ∙ can_by_verb command c.verb.result c.verb.ensures)
