-- What the row of a command comes to apart from its tests, and the laws of a command over states: a change of the command comes with one ok, and its sizes were checked.
use Rattle.rp_geometry.specs.sets.Shape.{Part, Shape}
use Rattle.rp_language.specs.Expression.{Command, Kind, Operands}
use Rattle.rp_model.specs.commands.Definition.{with_form, with_forms, Formed, Definition, AsksForm, AsksForms, Entry, about_form, about_forms, own, definition_of}
use Rattle.rp_model.specs.commands.Reply.{Reply, reply_lines, refusal, yes_or_no}
use Rattle.rp_model.specs.commands.Rule.{change_of, with_parts}
use Rattle.rp_model.specs.commands.Rules.{answers}
use Rattle.rp_model.specs.commands.Verdict.{Refusal, Verdict, says_ok}
use Rattle.rp_model.specs.states.State.{NewLot, State, Change, nothing_changes, name_added, lots_replaced, layer_changed, sets_only, StateOf, parts_in, parts_under_names, parts_under_lots, parts_only, most_kept_parts, most_names}
use Rattle.rp_reports.specs.TrueReport.{is_accepted_change}
use Rattle.rp_states.proofs.Bare.{bare_change, moved, set_bare}
use Rattle.rp_states.proofs.Plain.{meaning_same}
use Rattle.rp_semantics.proofs.Outcomes.{after_done}
use Rattle.rp_semantics.specs.Form.{form}
use Rattle.rp_semantics.specs.FormLaws.{IfDone}
use Rattle.rp_semantics.specs.Walk.{Outcome, done, stopped, Tester}
use Rattle.std.proofs.Common.{◌≡◌, ℕ, Bool, true, false, ◌⊎◌, inl, List, [], ◌∷◌, map, length, refl, ◌+◌, ◌≤◌, sum_by}
use Rattle.rp_model.proofs.Entries.{IsAboutForms}

-- a new lot without its set
abbrev pub plain_new : {S : Type 0} → NewLot S → NewLot (Unit {0})
plain_new a = record { id = a.id; layer = a.layer; set = tt; parts = a.parts; origins = a.origins }

-- a change without its sets
abbrev pub plain_change : {S : Type 0} → Change S → Change (Unit {0})
plain_change nothing_changes = nothing_changes
plain_change (name_added k) = name_added (record { name = k.name; set = tt; parts = k.parts })
plain_change (lots_replaced ids new) = lots_replaced ids (map plain_new new)
plain_change (layer_changed y) = layer_changed y

-- how many parts new lots keep
abbrev pub parts_of_new : {S : Type 0} → List (NewLot S) → ℕ
parts_of_new new = sum_by (λ a. length a.parts) new

-- a change keeps the limits of sizes
abbrev pub KeepsSizes : {S T : Type 0} → StateOf S → Change T → Type 0
KeepsSizes s nothing_changes = Unit {0}
KeepsSizes s (name_added k) = (length s.names + 1 ≤ most_names) × (parts_under_names s.names + length k.parts ≤ most_kept_parts)
KeepsSizes s (lots_replaced ids new) = parts_under_lots s.lots + parts_of_new new ≤ most_kept_parts
KeepsSizes s (layer_changed y) = Unit {0}

-- a reply that accepts: it says ok, its change is the one given but for its sets, and the sizes keep their limits
pub record IsAcceptance (s : State) (d : Change Shape) (r : Reply) : Type 0 where
  pub says : r.verdicts ≡ says_ok ∷ []
  pub bare : bare_change (with_parts d r.change) ≡ d
  pub same : plain_change (with_parts d r.change) ≡ r.change
  pub sizes : KeepsSizes s r.change

-- a reply that changes nothing does not say ok alone
pub record IsAnswer (r : Reply) : Type 0 where
  pub nothing : r.change ≡ nothing_changes
  pub says : is_accepted_change r.verdicts ≡ false

-- a reply as the row of a command with this change gives it
abbrev pub FitsChange : State → Change Shape → Reply → Type 0
FitsChange s d r = IsAnswer r ⊎ IsAcceptance s d r

-- a reply as a row gives it
abbrev pub IsFitReply : State → Command → Reply → Type 0
IsFitReply s c r = FitsChange s (change_of s c) r

-- a yes or a no is an answer
pub yes_or_no_answers : (b : Bool) → IsAnswer (yes_or_no b)
yes_or_no_answers true = record { nothing = refl; says = refl }
yes_or_no_answers false = record { nothing = refl; says = refl }

-- a refusal is an answer
pub refuses_fit : (s : State) (c : Command) (r : Refusal) → IsFitReply s c (refusal r)
refuses_fit s c r = inl (record { nothing = refl; says = refl })

-- the answer of a list of lines that does not say ok alone
pub lines_fit : (s : State) (c : Command) (vs : List Verdict) → is_accepted_change vs ≡ false → IsFitReply s c (reply_lines vs)
lines_fit s c vs e = inl (record { nothing = refl; says = e })

-- ---- the laws of a command over states

-- its row reads the parts of a state alone, its rule and its change read the sets alone, and its replies fit
pub record Plain {ks : List Kind} (d : Definition ks) : Type 1 where
  pub same : {S W : Type 0} (t : Tester W) (s : StateOf S) (os : Operands ks) → d.row t (parts_only s) os ≡ d.row t s os
  pub rule : (s : State) (formed : Formed) (os : Operands ks) (vs : List Verdict) → d.rule s formed os vs → d.rule (sets_only s) formed os vs
  pub change : (s : State) (os : Operands ks) → d.change (sets_only s) os ≡ d.change s os
  pub fits : {W : Type 0} (t : Tester W) (s : State) → parts_under_lots s.lots ≤ most_kept_parts → (os : Operands ks) (w : W) → IfDone (d.row t s os w) (FitsChange s (d.change s os))

-- ---- questions about forms

-- the reply of a question about one expression is an answer
abbrev pub AnswersForm : AsksForm → Type 1
AnswersForm q = (W : Type 0) (t : Tester W) (ps : List Part) (w : W) → IfDone (q.row t ps w) IsAnswer

-- the reply of a question about two expressions is an answer
abbrev pub AnswersForms : AsksForms → Type 1
AnswersForms q = (W : Type 0) (t : Tester W) (ps qs : List Part) (w : W) → IfDone (q.row t ps qs w) IsAnswer

-- what the laws ask of a command that is a question about forms
abbrev pub Answers : {ks : List Kind} → Entry ks → Type 1
Answers (about_form q) = AnswersForm q
Answers (about_forms q) = AnswersForms q
Answers (own d) = Unit {1}

-- an answer fits
answer_fits : {W : Type 0} (s : State) (d : Change Shape) (o : Outcome W Reply) → IfDone o IsAnswer → IfDone o (FitsChange s d)
answer_fits s d (done r w) h = inl h
answer_fits s d (stopped e w) h = tt

-- the laws of a question about forms
pub forms_plain : {ks : List Kind} (e : Entry ks) → IsAboutForms e → Answers e → Plain (definition_of e)
forms_plain (about_form q) is answers = record {
  same = λ t s (e, end). λ i. with_form t (meaning_same s i) e (q.row t);
  rule = λ s formed (e, end). moved (λ i. q.rule formed (set_bare s i e));
  change = λ s os. refl;
  fits = λ t s few (e, end) w. after_done (FitsChange s nothing_changes) (form t (parts_in s) e w) (q.row t) λ ps w. answer_fits s nothing_changes (q.row t ps w) (answers _ t ps w);
}
forms_plain (about_forms q) is answers = record {
  same = λ t s (e, (f, end)). λ i. with_forms t (meaning_same s i) e f (q.row t);
  rule = λ s formed (e, (f, end)). moved (λ i. q.rule (set_bare s i e) (set_bare s i f));
  change = λ s os. refl;
  fits = λ t s few (e, (f, end)) w.
      after_done (FitsChange s nothing_changes) (form t (parts_in s) e w) _ λ ps w.
      after_done (FitsChange s nothing_changes) (form t (parts_in s) f w) (q.row t ps) λ qs w. answer_fits s nothing_changes (q.row t ps qs w) (answers _ t ps qs w);
}
forms_plain (own d) is answers = absurd is
