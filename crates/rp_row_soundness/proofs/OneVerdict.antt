-- No two different lists of verdict lines meet a rule.
use Rattle.std.specs.List.{AllByRecursion}
use Rattle.rp_language.specs.Expression.{Command, expressions_of, first_unknown_among, said}
use Rattle.rp_model.specs.states.State.{State, sets_in}
use Rattle.rp_model.specs.commands.Definition.{Formed}
use Rattle.rp_model.specs.commands.Rule.{rule_after_labels, rule_without_limits}
use Rattle.rp_geometry.specs.laws.RegionLaws.{RelationsExclude}
use Rattle.rp_geometry.specs.laws.PieceLaws.{IsNonemptyPart, PiecesAreOne}
use Rattle.rp_row_soundness.proofs.OneAnswer.{IsOneAtMost, one_after_labels}
use Rattle.rp_row_soundness.proofs.Commands.{meets}

-- the rule of a command all of whose labels stand for something
one_after : RelationsExclude → PiecesAreOne → (s : State) (formed : Formed) → AllByRecursion IsNonemptyPart formed.parts → (c : Command) → IsOneAtMost (rule_after_labels s formed c)
one_after exclude pieces s formed h (said verb os) = (meets verb).one exclude pieces s formed h os

-- the rule of a command, without its limits
pub one_verdict : RelationsExclude → PiecesAreOne → (s : State) (formed : Formed) → AllByRecursion IsNonemptyPart formed.parts → (c : Command) → IsOneAtMost (rule_without_limits s formed c)
one_verdict exclude pieces s formed h c = one_after_labels (first_unknown_among (sets_in s) (expressions_of c)) (rule_after_labels s formed c) (one_after exclude pieces s formed h c)
