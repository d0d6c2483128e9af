-- Rules: which verdict lines are right.
use Rattle.std.specs.Prelude.{List, [], ◌∷◌, Option, Some, None, ◌≡◌, ◌⊎◌}
use Rattle.rp_language.specs.Name.{Label}
use Rattle.rp_model.specs.commands.Verdict.{Refusal, Verdict, says_yes, says_no, says_ok, refused, unknown}

-- a rule: the property of verdict lines to be right
abbrev pub Rule : Type 1
Rule = List Verdict → Type 0

-- exactly these lines are right
abbrev pub answers : List Verdict → Rule
answers vs given = given ≡ vs

-- yes is right if the statement holds; no is right if it does not
abbrev pub yes_where : Type 0 → Rule
yes_where C given = (C × answers (says_yes ∷ []) given) ⊎ ((¬ C) × answers (says_no ∷ []) given)

-- exactly this refusal is right
abbrev pub refuses : Refusal → Rule
refuses r = answers (refused r ∷ [])

-- refuses with the label without a meaning, if there is one; otherwise the rest of the rule decides
abbrev pub labels_then : Option Label → Rule → Rule
labels_then None rest = rest
labels_then (Some x) rest = refuses (unknown x)

-- refuses with the refusal of a check on names, if there is one; otherwise the rest of the rule decides
abbrev pub names_then : Option Refusal → Rule → Rule
names_then None rest = rest
names_then (Some r) rest = refuses r

-- refuses if the statement holds; otherwise the rest of the rule decides
abbrev pub refused_where : Type 0 → Refusal → Rule → Rule
refused_where C r rest given = (C × refuses r given) ⊎ ((¬ C) × rest given)

-- exactly the line ok is right
abbrev pub accepts : Rule
accepts = answers (says_ok ∷ [])
