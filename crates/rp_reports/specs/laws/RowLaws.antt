-- The laws over the row of a command, as statements about any tester that answers rightly. The verdict lines of the row are those that the rule of sets needs, and its change is one that a sound state accepts.
use Rattle.std.specs.Prelude.{◌≡◌, ℕ, ◌+◌, ◌≤◌, false, not, IsTrue, List, map, length, filter, sum_by}
use Rattle.std.specs.List.{AllByRecursion}
use Rattle.rp_language.specs.Name.{Label, is_among}
use Rattle.rp_geometry.specs.sets.Shape.{Shape, Part}
use Rattle.rp_geometry.specs.sets.Sets.{IsNonempty, Overlaps}
use Rattle.rp_geometry.specs.sections.Trace.{IsHeight}
use Rattle.rp_language.specs.Grammar.{Version, command, reading}
use Rattle.rp_semantics.specs.Walk.{Work, Tester, first_tester}
use Rattle.rp_model.specs.states.State.{most_kept_parts, most_names}
use Rattle.rp_language.specs.Expression.{Expression, Command, IsKeptExpression, resolve_names, expressions_of, heights_of}
use Rattle.rp_semantics.specs.Form.{form}
use Rattle.rp_model.specs.states.State.{Kept, State, live_lots, names_of, ids_of, parts_in, sets_in, parts_under_names, parts_under_lots, NewLot, Change, nothing_changes, name_added, lots_replaced, layer_changed}
use Rattle.rp_geometry.specs.parts.Parts.{IsPart, IsCheckedPart, AreOf}
use Rattle.rp_model.specs.states.Sound.{are_distinct, Pairwise, AreOfLayer, IsSoundWith, IsSound}
use Rattle.rp_model.specs.commands.Reply.{Reply}
use Rattle.rp_model.specs.commands.Row.{row}
use Rattle.rp_model.specs.commands.Rules.{Rule}
use Rattle.rp_model.specs.commands.Rule.{formed_by, rule_of, rule_without_limits, walked, change_of, with_parts}
use Rattle.rp_model.specs.commands.Verdict.{Verdict}
use Rattle.rp_reports.specs.Machine.{verdicts_walked}
use Rattle.rp_reports.specs.Check.{line_tester}
use Rattle.rp_reports.specs.TrueReport.{true_rule}
use Rattle.rp_semantics.specs.FormLaws.{IfDone, AnswersRightly}

-- the lines of a report that the check takes answer rightly
abbrev pub LineTesterIsRight : Type 0
LineTesterIsRight = AnswersRightly IsCheckedPart line_tester

-- in a sound state the form of an expression has exactly the members of its set
abbrev pub FormHasTheMembers : Type 0
FormHasTheMembers = (s : State) → IsSound s → (e : Expression) → IsKeptExpression e → (w : Work) → IfDone (form first_tester (parts_in s) e w) (λ made. AreOf IsPart (resolve_names (sets_in s) e) made)

-- in a sound state the verdict lines of a row that is not stopped are those that the rule of sets needs
abbrev pub VerdictsMeetRule : {W : Type 0} → (Part → Type 0) → Tester W → Type 0
VerdictsMeetRule {W = W} P t = (s : State) → IsSoundWith P s → (c : Command) → AllByRecursion IsKeptExpression (expressions_of c) → (w : W) →
    IfDone (row t s c w) (λ r. rule_without_limits s (formed_by t s c w) c r.verdicts)

-- in a sound state the verdict of the row is the one that the rule of sets needs, and the only one
abbrev pub RowMeetsRule : Type 0
RowMeetsRule = (s : State) → IsSound s → (v : Version) (line : List ℕ) (c : Command) → reading v line ≡ command c →
    rule_of s c (verdicts_walked (walked s c)) × ((given : List Verdict) → rule_of s c given → given ≡ verdicts_walked (walked s c))

-- ---- changes

-- each list of parts that a change stores has the members of the set next to it
abbrev pub NewPartsAreOf : (Part → Type 0) → Change Shape → Type 0
NewPartsAreOf P nothing_changes = Unit {0}
NewPartsAreOf P (name_added k) = AreOf P k.set k.parts
NewPartsAreOf P (lots_replaced ids new) = AllByRecursion (λ l. AreOf P l.set l.parts) new
NewPartsAreOf P (layer_changed y) = Unit {0}

-- in a sound state the new parts of a row that is not stopped have the members of the new sets
abbrev pub NewPartsAreRight : {W : Type 0} → (Part → Type 0) → Tester W → Type 0
NewPartsAreRight {W = W} P t = (s : State) → IsSoundWith P s → (c : Command) → AllByRecursion IsKeptExpression (expressions_of c) → (w : W) →
    IfDone (row t s c w) (λ r. NewPartsAreOf P (with_parts (change_of s c) r.change))

-- a name that a sound state accepts: it is new, its parts have the members of its set, and the sizes are within the limits
pub record IsSoundName (P : Part → Type 0) (s : State) (k : Kept Shape) : Type 0 where
  pub parts : AreOf P k.set k.parts
  pub fresh : is_among k.name (names_of s.names) ≡ false
  pub few_names : length s.names + 1 ≤ most_names
  pub few_parts : parts_under_names s.names + length k.parts ≤ most_kept_parts

-- lots that a sound state accepts in place of those that end: parts with the members of their sets; no empty set; no common member among them or with a live lot of their layer that stays; new ids; origins in their layer; sizes within the limits
pub record AreSoundLots (P : Part → Type 0) (s : State) (ids : List Label) (new : List (NewLot Shape)) : Type 0 where
  pub parts : AllByRecursion (λ l. AreOf P l.set l.parts) new
  pub nonempty : AllByRecursion (λ l. IsNonempty l.set) new
  pub apart : Pairwise (λ l k. ¬ Overlaps l.set k.set) new
  pub apart_from_others : AllByRecursion (λ l. AllByRecursion (λ k. l.layer ≡ k.layer → ¬ Overlaps l.set k.set) new) (filter (λ l. not (is_among l.id ids)) (live_lots s.lots))
  pub fresh : AllByRecursion (λ l. is_among l.id (ids_of s.lots) ≡ false) new
  pub distinct : IsTrue (are_distinct (map (λ l. l.id) new))
  pub origins : AllByRecursion (λ l. AllByRecursion (λ x. IsTrue (is_among x (ids_of s.lots))) l.origins) new
  pub origins_of_layer : AllByRecursion (λ l. AreOfLayer s.lots l.layer l.origins) new
  pub few_parts : parts_under_lots s.lots + sum_by (λ l. length l.parts) new ≤ most_kept_parts

-- a change that a sound state accepts
abbrev pub IsSoundChange : (Part → Type 0) → State → Change Shape → Type 0
IsSoundChange P s nothing_changes = Unit {0}
IsSoundChange P s (name_added k) = IsSoundName P s k
IsSoundChange P s (lots_replaced ids new) = AreSoundLots P s ids new
IsSoundChange P s (layer_changed y) = Unit {0}

-- a reply whose verdict lines are those that the rule needs, and whose change the sound state accepts
abbrev pub IsRightReply : (Part → Type 0) → State → Change Shape → Rule → Reply → Type 0
IsRightReply P s change rule r = rule r.verdicts × IsSoundChange P s (with_parts change r.change)

-- in a sound state the reply of a row that is not stopped has the verdict lines that the rule of sets needs, and a change that the state accepts
abbrev pub RowIsRight : {W : Type 0} → (Part → Type 0) → Tester W → Type 0
RowIsRight {W = W} P t = (s : State) → IsSoundWith P s → (c : Command) → AllByRecursion IsKeptExpression (expressions_of c) → (w : W) →
    IfDone (row t s c w) (IsRightReply P s (change_of s c) (rule_without_limits s (formed_by t s c w) c))

-- ---- the check

-- in a sound state the verdict lines of a row that is not stopped are true by sets alone, as a report has them
abbrev pub VerdictsAreTrue : {W : Type 0} → (Part → Type 0) → Tester W → Type 0
VerdictsAreTrue {W = W} P t = (s : State) → IsSoundWith P s → (c : Command) → AllByRecursion IsKeptExpression (expressions_of c) → AllByRecursion IsHeight (heights_of c) → (w : W) → IfDone (row t s c w) (λ r. true_rule s c r.verdicts)
