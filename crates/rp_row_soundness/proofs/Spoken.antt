-- Rules that are met by no lines alone: each wants a verdict.
use Rattle.std.proofs.Common.{List, [], ◌∷◌, Option, Some, None, inl, inr, sym, subst}
use Rattle.rp_language.specs.Name.{Label}
use Rattle.rp_model.specs.commands.Rules.{Rule, answers, yes_where, labels_then, names_then, refused_where}
use Rattle.rp_model.specs.commands.Verdict.{Verdict, Refusal}

-- there is a verdict
abbrev pub IsSpoken : List Verdict → Type 0
IsSpoken [] = ⊥
IsSpoken (v ∷ vs) = Unit {0}

-- what meets the rule has a verdict
abbrev pub Speaks : Rule → Type 0
Speaks rule = (given : List Verdict) → rule given → IsSpoken given

-- one or more lines
pub answers_speak : (vs : List Verdict) → IsSpoken vs → Speaks (answers vs)
answers_speak vs h given e = subst IsSpoken (sym e) h

-- yes or no
pub yes_speaks : (C : Type 0) → Speaks (yes_where C)
yes_speaks C given (inl h) = subst IsSpoken (sym h.1) tt
yes_speaks C given (inr h) = subst IsSpoken (sym h.1) tt

-- a refusal, or what another rule says
pub refused_speaks : (C : Type 0) (r : Refusal) (rest : Rule) → Speaks rest → Speaks (refused_where C r rest)
refused_speaks C r rest k given (inl h) = subst IsSpoken (sym h.1) tt
refused_speaks C r rest k given (inr h) = k given h.1

-- behind the checks on names
pub names_speak : (o : Option Refusal) (rest : Rule) → Speaks rest → Speaks (names_then o rest)
names_speak None rest k given h = k given h
names_speak (Some r) rest k given h = subst IsSpoken (sym h) tt

-- behind the check on labels
pub labels_speak : (o : Option Label) (rest : Rule) → Speaks rest → Speaks (labels_then o rest)
labels_speak None rest k given h = k given h
labels_speak (Some x) rest k given h = subst IsSpoken (sym h) tt
