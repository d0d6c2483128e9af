-- Rules that no two different lists of verdict lines meet.
use Rattle.std.proofs.Common.{◌≡◌, List, [], ◌∷◌, inl, inr, sym, ◌∙◌}
use Rattle.std.specs.Prelude.{Option, Some, None}
use Rattle.rp_language.specs.Name.{Label}
use Rattle.rp_model.specs.commands.Verdict.{Refusal, Verdict, refused}
use Rattle.rp_model.specs.commands.Rules.{Rule, answers, labels_then, yes_where, names_then, refused_where}

-- no two different lists of lines meet the rule
abbrev pub IsOneAtMost : Rule → Type 0
IsOneAtMost rule = (given other : List Verdict) → rule given → rule other → given ≡ other

-- the lines that are wanted
pub one_answer : (vs : List Verdict) → IsOneAtMost (answers vs)
one_answer vs given other e f = e ∙ sym f

-- yes or no
pub one_of_yes : (C : Type 0) → IsOneAtMost (yes_where C)
one_of_yes C given other (inl a) (inl b) = a.1 ∙ sym b.1
one_of_yes C given other (inl a) (inr b) = absurd (b.0 a.0)
one_of_yes C given other (inr a) (inl b) = absurd (a.0 b.0)
one_of_yes C given other (inr a) (inr b) = a.1 ∙ sym b.1

-- a refusal, or else the rest
pub one_where : (C : Type 0) (r : Refusal) (rest : Rule) → (¬ C → IsOneAtMost rest) → IsOneAtMost (refused_where C r rest)
one_where C r rest one given other (inl a) (inl b) = a.1 ∙ sym b.1
one_where C r rest one given other (inl a) (inr b) = absurd (b.0 a.0)
one_where C r rest one given other (inr a) (inl b) = absurd (a.0 b.0)
one_where C r rest one given other (inr a) (inr b) = one a.0 given other a.1 b.1

-- checks on names, and then the rest
pub one_after_names : (o : Option Refusal) (rest : Rule) → IsOneAtMost rest → IsOneAtMost (names_then o rest)
one_after_names None rest one = one
one_after_names (Some r) rest one = one_answer (refused r ∷ [])

-- labels, and then the rest
pub one_after_labels : (u : Option Label) (rest : Rule) → IsOneAtMost rest → IsOneAtMost (labels_then u rest)
one_after_labels None rest one = one
one_after_labels (Some x) rest one = one_answer (refused (Refusal.unknown x) ∷ [])
