-- What the check of a limit asks of a verb and of operands.
use Rattle.std.specs.Prelude.{Bool, true, false, List, [], ◌∷◌, map}
use Rattle.rp_language.specs.Expression.{Expression}
use Rattle.rp_command.specs.declared.command.Operand.{Operand}
use Rattle.rp_command.specs.declared.command.Operand.TheVariants as operands
use Rattle.rp_command.specs.declared.command.Verb.{Verb}
use Rattle.rp_command.specs.declared.command.Verb.TheVariants as verbs
use Rattle.rp_command.specs.Views.{expression_of, child_of}

-- the expressions of an operand, in reading order
abbrev pub expressions_of_operand : Operand → List Expression
expressions_of_operand (operands.Region e) = expression_of e.now ∷ []
expressions_of_operand (operands.Children cs) = map (λ c. c.shape) (map child_of cs.now.items)
expressions_of_operand _ = []

-- whether a command of the verb can meet a limit
abbrev pub can_meet_limit : Verb → Bool
can_meet_limit verbs.Member = false
can_meet_limit verbs.Retire = false
can_meet_limit verbs.History = false
can_meet_limit verbs.At = false
can_meet_limit verbs.Asof = false
can_meet_limit verbs.List = false
can_meet_limit verbs.Layer = false
can_meet_limit _ = true
