-- Every command has a verdict: no rule is met by no lines.
use Rattle.std.proofs.Common.{List}
use Rattle.rp_language.specs.Expression.{Command, expressions_of, first_unknown_among, said}
use Rattle.rp_semantics.specs.Walk.{Outcome, done, stopped, limit_met, limit_told, line_wrong, taken_wrong, Work}
use Rattle.rp_model.specs.commands.Reply.{Reply}
use Rattle.rp_model.specs.commands.Rules.{Rule}
use Rattle.rp_model.specs.commands.Definition.{Formed}
use Rattle.rp_model.specs.commands.Rule.{rule_after_labels, rule_without_limits, limit_then, first_formed, rule_of, walked}
use Rattle.rp_model.specs.commands.Verdict.{Verdict}
use Rattle.rp_model.specs.states.State.{State, sets_in}
use Rattle.rp_row_soundness.proofs.Commands.{meets}
use Rattle.rp_row_soundness.proofs.Spoken.{Speaks, answers_speak, labels_speak}
pub use Rattle.rp_row_soundness.proofs.Spoken.{IsSpoken}

-- each command
command_speaks : (s : State) (formed : Formed) (c : Command) → Speaks (rule_after_labels s formed c)
command_speaks s formed (said verb os) = (meets verb).speaks s formed os

-- a limit, or what the rule says
limit_speaks : (o : Outcome Work Reply) (rest : Rule) → Speaks rest → Speaks (limit_then o rest)
limit_speaks (done r w) rest k = k
limit_speaks (stopped limit_met w) rest k = answers_speak _ tt
limit_speaks (stopped limit_told w) rest k = k
limit_speaks (stopped line_wrong w) rest k = k
limit_speaks (stopped taken_wrong w) rest k = k

-- what is right for a command has a verdict
pub rule_speaks : (s : State) (c : Command) (given : List Verdict) → rule_of s c given → IsSpoken given
rule_speaks s c =
    limit_speaks (walked s c) (rule_without_limits s (first_formed s c) c)
    (labels_speak (first_unknown_among (sets_in s) (expressions_of c)) (rule_after_labels s (first_formed s c) c)
    (command_speaks s (first_formed s c) c))
