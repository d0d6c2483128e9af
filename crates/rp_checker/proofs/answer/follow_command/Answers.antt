use Rattle.std.proofs.Common.{Bool, subst}
use Rattle.rp_command.specs.Views.{command_of}
use Rattle.rp_model.specs.commands.Row.{row}
use Rattle.rp_model.specs.states.State.{PlainState}
use Rattle.rp_reports.specs.Check.{line_tester, follow_walk, follow_command}
use Rattle.rp_checker.specs.Answers.{Answers}
use Rattle.rp_checker.proofs.States.{followed_is_taken}
use Rattle.rp_checker.proofs.answer.follow_command.Goals as goal

pub follow_row-requires-clause-taken : goal.follow_row-requires-clause-taken
follow_row-requires-clause-taken c =
    followed_is_taken c.args.register.now c.keep_sound.ensures c.args.n c.requires.later (command_of c.args.command.now) c.requires.kept c.args.trail.now c.carried_out-row.new.trail c.carried_out-row.result c.carried_out-row.ensures

pub returns : goal.returns
unfolding follow_command
returns c =
    let s = c.args.register.now in
    let walked = row line_tester s (command_of c.args.command.now) c.args.trail.now in
    subst (λ (allowed : Bool). Answers {B = PlainState} (λ _. c.follow_row.new.register) c.follow_row.result c.follow_row.new.trail (follow_walk c.args.n s allowed walked)) c.limit_allowed-allowed.ensures
    (c.follow_row.ensures walked c.carried_out-row.ensures)
