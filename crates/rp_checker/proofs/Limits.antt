-- The expressions of a command are those of its operands.
use Rattle.std.proofs.Common.{◌≡◌, Bool, true, false, ◌&&◌, ℕ, ◌+◌, ◌<◌, List, [], ◌∷◌, ◌++◌, drop, get_or, length, Option, Some, None, refl, sym, ap, ◌∙◌}
use Rattle.std.specs.Prelude.{is_none}
use Rattle.std.specs.List.{flat_map}
use Rattle.std.proofs.lemmas.Grind.{flat_map-append}
use Rattle.std.proofs.lemmas.List.{append-nil, drop_more}
use Rattle.rp_language.specs.Name.{Label}
use Rattle.rp_language.specs.Expression.{Kind, name_kind, expression_kind, Operands, signature, Command, said, Expression, Meaning, expressions_in, expressions_among, expressions_of, first_of_two, first_unknown, first_unknown_among}
use Rattle.rp_command.specs.declared.command.Operand.{Operand}
use Rattle.rp_command.specs.declared.command.Operand.TheVariants as operands
use Rattle.rp_command.specs.declared.command.Verb.{Verb}
use Rattle.rp_command.specs.declared.command.Verb.TheVariants as verbs
use Rattle.rp_command.specs.Operands.{Said, of_kind, operand_of, operands_among, operands_in, verb_in}
use Rattle.rp_command.specs.Views.{verb_of}
use Rattle.rp_model.specs.commands.Table.{definition}
use Rattle.rp_reports.specs.Check.{may_meet_limit}
use Rattle.rp_checker.specs.Limits.{expressions_of_operand, can_meet_limit}

-- the expressions of a value with its kind
abbrev said_expressions : Said → List Expression
said_expressions (of_kind k x) = expressions_in k x

-- an operand of the code has the expressions of its value
expressions_said : (o : Operand) → expressions_of_operand o ≡ flat_map said_expressions (operand_of o)
expressions_said (operands.Name x) = refl
expressions_said (operands.Region e) = refl
expressions_said (operands.Point p) = refl
expressions_said (operands.Height z) = refl
expressions_said (operands.Line n) = refl
expressions_said operands.Equals = refl
expressions_said (operands.Names ids) = refl
expressions_said (operands.Children cs) = sym (append-nil _)
expressions_said operands.Missing = refl

-- operands of the code have the expressions of their values
said_among : (os : List Operand) → flat_map expressions_of_operand os ≡ flat_map said_expressions (flat_map operand_of os)
said_among [] = refl
said_among (o ∷ os) = (λ i. expressions_said o i ++ said_among os i) ∙ sym (flat_map-append said_expressions (operand_of o) (flat_map operand_of os))

-- the expressions of operands are the expressions of each
expressions_each : (ks : List Kind) (os : Operands ks) → expressions_among ks os ≡ flat_map said_expressions (operands_among ks os)
expressions_each [] os = refl
expressions_each (k ∷ []) os = sym (append-nil (expressions_in k os.0))
expressions_each (k ∷ l ∷ ks) os = ap (λ es. expressions_in k os.0 ++ es) (expressions_each (l ∷ ks) os.1)

-- the expressions of a command are the expressions of its operands
expressions_whole : (c : Command) → expressions_of c ≡ flat_map said_expressions (operands_in c)
expressions_whole (said verb os) = expressions_each (signature verb) os

-- the expressions of a command, from its operands in the code
pub command_expressions : (c : Command) (os : List Operand) → flat_map operand_of os ≡ operands_in c → expressions_of c ≡ flat_map expressions_of_operand os
command_expressions c os all = expressions_whole c ∙ ap (flat_map said_expressions) (sym all) ∙ sym (said_among os)

-- the definition of a verb says whether its commands can meet a limit
can_as_defined : (verb : Verb) → can_meet_limit verb ≡ (definition (verb_of verb)).may_meet_limit
can_as_defined verbs.Member = refl
can_as_defined verbs.Retire = refl
can_as_defined verbs.History = refl
can_as_defined verbs.At = refl
can_as_defined verbs.Asof = refl
can_as_defined verbs.List = refl
can_as_defined verbs.Layer = refl
can_as_defined _ = refl

-- a command can meet a limit iff its definition says so
may_as_defined : (c : Command) → may_meet_limit c ≡ (definition (verb_in c)).may_meet_limit
may_as_defined (said verb os) = refl

-- a command can meet a limit iff its verb can
pub can_by_verb : (c : Command) (verb : Verb) → verb_of verb ≡ verb_in c → can_meet_limit verb ≡ may_meet_limit c
can_by_verb c verb is = can_as_defined verb ∙ ap (λ v. (definition v).may_meet_limit) is ∙ sym (may_as_defined c)

-- a label is missing of neither list or of one of them
by_first : (first : Option Label) (all rest : Option Label) (others : Bool) → is_none all ≡ is_none rest && others → is_none (first_of_two first all) ≡ is_none (first_of_two first rest) && others
by_first None all rest others h = h
by_first (Some x) all rest others h = refl

-- no name is missing of two lists iff none is missing of either
pub none_of_both : {A : Type 0} (m : Meaning A) (xs ys : List Expression) → is_none (first_unknown_among m (xs ++ ys)) ≡ is_none (first_unknown_among m xs) && is_none (first_unknown_among m ys)
none_of_both m [] ys = refl
none_of_both m (e ∷ xs) ys = by_first (first_unknown m e) (first_unknown_among m (xs ++ ys)) (first_unknown_among m xs) (is_none (first_unknown_among m ys)) (none_of_both m xs ys)

-- of the operands from a place on no name is missing iff none is missing of the first and of the others
pub first_and_others : {A : Type 0} (m : Meaning A) (os : List Operand) (i : ℕ) (o : Operand) → i < length os → o ≡ get_or os i o → is_none (first_unknown_among m (flat_map expressions_of_operand (drop i os))) ≡ is_none (first_unknown_among m (expressions_of_operand o)) && is_none (first_unknown_among m (flat_map expressions_of_operand (drop (i + 1) os)))
first_and_others m os i o inside at =
    let others = flat_map expressions_of_operand (drop (i + 1) os) in
    ap (λ (rest : List Operand). is_none (first_unknown_among m (flat_map expressions_of_operand rest))) (drop_more os i o inside)
    ∙ none_of_both m (expressions_of_operand (get_or os i o)) others
    ∙ ap (λ (first : Operand). is_none (first_unknown_among m (expressions_of_operand first)) && is_none (first_unknown_among m others)) (sym at)
