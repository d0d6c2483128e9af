-- What a command must meet: its row, its limits and its rule; and what is asked of a question about forms alone.
use Rattle.std.proofs.Common.{List, []}
use Rattle.std.specs.List.{AllByRecursion}
use Rattle.rp_geometry.specs.sets.Shape.{Shape, Part}
use Rattle.rp_semantics.specs.Walk.{Tester}
use Rattle.rp_language.specs.Expression.{IsKeptExpression, expressions_of, Verb, Operands, signature, said, Kind, expressions_among}
use Rattle.rp_model.specs.states.State.{State, nothing_changes}
use Rattle.rp_model.specs.commands.Row.{row_of}
use Rattle.rp_model.specs.commands.Definition.{Formed, AsksForm, AsksForms, Entry, about_form, about_forms, own, definition_of}
use Rattle.rp_model.specs.commands.Rule.{rule_after_labels, formed_or_nothing, formed_by, change_of, form_first}
use Rattle.rp_model.specs.commands.Sets.{set_of}
use Rattle.rp_geometry.specs.parts.Parts.{AreOf}
use Rattle.rp_model.specs.states.Sound.{IsSoundWith}
use Rattle.rp_semantics.specs.FormLaws.{IfDone, WalksAreRight}
use Rattle.rp_row_soundness.proofs.Outcomes.{Replies}
use Rattle.rp_row_soundness.specs.Limits.{PassedBy}
use Rattle.rp_geometry.specs.laws.RegionLaws.{RelationsExclude}
use Rattle.rp_geometry.specs.laws.PieceLaws.{IsNonemptyPart, PiecesAreOne}
use Rattle.rp_model.proofs.Entries.{IsAboutForms}
use Rattle.rp_row_soundness.proofs.Stopped.{IfStopped}
use Rattle.rp_row_soundness.proofs.OneAnswer.{IsOneAtMost}
use Rattle.rp_row_soundness.proofs.AfterForms.{uncut, asked, one_form, two_forms}
use Rattle.rp_row_soundness.proofs.Spoken.{Speaks}

-- ---- the laws of a command

-- its row replies as its rule demands; where the row meets a limit, the refusals that stand before the limit do not hold; no two lists of verdict lines meet the rule, nor does an empty one
pub record Meets (verb : Verb) : Type 1 where
  pub replies : {W : Type 0} (P : Part → Type 0) (t : Tester W) → WalksAreRight P t → (s : State) → IsSoundWith P s → (os : Operands (signature verb)) → AllByRecursion IsKeptExpression (expressions_of (said verb os)) → (w : W)
      → IfDone (row_of t s (said verb os) w) (Replies P (change_of s (said verb os)) (rule_after_labels s (formed_by t s (said verb os) w) (said verb os)))
  pub passed : {W : Type 0} (P : Part → Type 0) (t : Tester W) → WalksAreRight P t → (s : State) → IsSoundWith P s → (os : Operands (signature verb)) → AllByRecursion IsKeptExpression (expressions_of (said verb os)) → (w : W)
      → IfStopped (row_of t s (said verb os) w) (PassedBy t s (said verb os) w)
  pub one : RelationsExclude → PiecesAreOne → (s : State) (formed : Formed) → AllByRecursion IsNonemptyPart formed.parts → (os : Operands (signature verb)) → IsOneAtMost (rule_after_labels s formed (said verb os))
  pub speaks : (s : State) (formed : Formed) (os : Operands (signature verb)) → Speaks (rule_after_labels s formed (said verb os))

-- ---- questions about forms

-- what the laws ask of a question about one expression
pub record MeetsForm (q : AsksForm) : Type 1 where
  pub replies : {W : Type 0} (P : Part → Type 0) (t : Tester W) → WalksAreRight P t → (a : Shape) (ps : List Part) → AreOf P a ps → (w : W) → IfDone (q.row t ps w) (λ r. q.rule (uncut ps) a r.verdicts)
  pub one : RelationsExclude → PiecesAreOne → (formed : Formed) → AllByRecursion IsNonemptyPart formed.parts → (a : Shape) → IsOneAtMost (q.rule formed a)
  pub speaks : (formed : Formed) (a : Shape) → Speaks (q.rule formed a)

-- what the laws ask of a question about two expressions
pub record MeetsForms (q : AsksForms) : Type 1 where
  pub replies : {W : Type 0} (P : Part → Type 0) (t : Tester W) → WalksAreRight P t → (a b : Shape) (ps qs : List Part) → AreOf P a ps → AreOf P b qs → (w : W) → IfDone (q.row t ps qs w) (λ r. q.rule a b r.verdicts)
  pub one : RelationsExclude → PiecesAreOne → (a b : Shape) → IsOneAtMost (q.rule a b)
  pub speaks : (a b : Shape) → Speaks (q.rule a b)

-- what the laws ask of a command that is a question about forms
abbrev pub MeetsEntry : {ks : List Kind} → Entry ks → Type 1
MeetsEntry (about_form q) = MeetsForm q
MeetsEntry (about_forms q) = MeetsForms q
MeetsEntry (own d) = Unit {1}

module _ {W : Type 0} (P : Part → Type 0) (t : Tester W) (right : WalksAreRight P t) (s : State) (sound : IsSoundWith P s) where
  -- a question about forms replies as its rule demands
  pub entry_replies : {ks : List Kind} (e : Entry ks) → IsAboutForms e → MeetsEntry e → (os : Operands ks) → AllByRecursion IsKeptExpression (expressions_among ks os) → (w : W)
      → IfDone ((definition_of e).row t s os w) (Replies P ((definition_of e).change s os) ((definition_of e).rule s (formed_or_nothing (form_first t s (expressions_among ks os) [] w)) os))
  entry_replies (about_form q) is meets (e, end) kept w =
      one_form P t right s sound e kept.0 (λ f. Replies P nothing_changes (q.rule f (set_of s e))) (q.row t) w
      (λ ps v h. asked P t right s sound (q.rule (uncut ps) (set_of s e)) (q.row t ps v) (meets.replies P t right (set_of s e) ps h v))
  entry_replies (about_forms q) is meets (e, (f, end)) kept w =
      two_forms P t right s sound e f kept.0 kept.1.0 (Replies P nothing_changes (q.rule (set_of s e) (set_of s f))) (q.row t) w
      (λ ps qs v h k. asked P t right s sound (q.rule (set_of s e) (set_of s f)) (q.row t ps qs v) (meets.replies P t right (set_of s e) (set_of s f) ps qs h k v))
  entry_replies (own d) is meets os kept w = absurd is

-- no two lists of verdict lines meet the rule of a question about forms
pub entry_one : {ks : List Kind} (e : Entry ks) → IsAboutForms e → MeetsEntry e → RelationsExclude → PiecesAreOne → (s : State) (formed : Formed) → AllByRecursion IsNonemptyPart formed.parts → (os : Operands ks) → IsOneAtMost ((definition_of e).rule s formed os)
entry_one (about_form q) is meets exclude pieces s formed h (e, end) = meets.one exclude pieces formed h (set_of s e)
entry_one (about_forms q) is meets exclude pieces s formed h (e, (f, end)) = meets.one exclude pieces (set_of s e) (set_of s f)
entry_one (own d) is meets exclude pieces s formed h os = absurd is

-- an empty list of verdict lines does not meet the rule of a question about forms
pub entry_speaks : {ks : List Kind} (e : Entry ks) → IsAboutForms e → MeetsEntry e → (s : State) (formed : Formed) (os : Operands ks) → Speaks ((definition_of e).rule s formed os)
entry_speaks (about_form q) is meets s formed (e, end) = meets.speaks formed (set_of s e)
entry_speaks (about_forms q) is meets s formed (e, (f, end)) = meets.speaks (set_of s e) (set_of s f)
entry_speaks (own d) is meets s formed os = absurd is
