-- The row of each command, walked with a tester that answers rightly, replies rightly in a sound state.
use Rattle.std.proofs.Common.{◌≡◌, refl, subst}
use Rattle.std.specs.Prelude.{Option, Some, None, option_map}
use Rattle.std.specs.List.{AllByRecursion}
use Rattle.rp_language.specs.Name.{Label}
use Rattle.rp_geometry.specs.sets.Shape.{Shape, Part}
use Rattle.rp_semantics.specs.Walk.{Walk, Tester}
use Rattle.rp_language.specs.Expression.{Command, IsKeptExpression, expressions_of, first_unknown_among, said}
use Rattle.rp_model.specs.states.State.{State, parts_in, sets_in, Change, nothing_changes, lots_replaced, name_added, layer_changed}
use Rattle.rp_model.specs.commands.Verdict.{Refusal, unknown}
use Rattle.rp_model.specs.commands.Reply.{Reply, check, refusal}
use Rattle.rp_model.specs.commands.Row.{row, row_of}
use Rattle.rp_model.specs.commands.Rules.{Rule, labels_then}
use Rattle.rp_model.specs.commands.Rule.{rule_after_labels, rule_without_limits, formed_by, change_of, with_parts}
use Rattle.rp_model.specs.states.Sound.{IsSoundWith}
use Rattle.rp_semantics.specs.FormLaws.{IfDone, WalksAreRight}
use Rattle.rp_semantics.proofs.Outcomes.{weaker_done}
use Rattle.rp_reports.specs.laws.RowLaws.{NewPartsAreOf, VerdictsMeetRule, NewPartsAreRight}
use Rattle.rp_row_soundness.proofs.Outcomes.{Replies}
use Rattle.rp_row_soundness.proofs.Meanings.{unknown_among_same}
use Rattle.rp_row_soundness.proofs.Commands.{meets}

-- labels that are missing, or else the rest of a row, which meets the rest of the rule
pub labels_done : {W : Type 0} (K : Reply → Type 0) (u v : Option Label) → u ≡ v → (rest : Rule) (walk : Walk W Reply) (w : W)
    → ((r : Refusal) → K (refusal r)) → IfDone (walk w) (λ r. rest r.verdicts × K r) → IfDone (check (option_map unknown u) walk w) (λ r. labels_then v rest r.verdicts × K r)
labels_done {W = W} K u v e rest walk w refuses goes_on = subst (λ v. IfDone (check (option_map unknown u) walk w) (λ r. labels_then v rest r.verdicts × K r)) e (by_label u)
  where
    by_label : (u : Option Label) → IfDone (check (option_map unknown u) walk w) (λ r. labels_then u rest r.verdicts × K r)
    by_label None = goes_on
    by_label (Some x) = (refl, refuses (unknown x))

module _ {W : Type 0} (P : Part → Type 0) (t : Tester W) (right : WalksAreRight P t) (s : State) (sound : IsSoundWith P s) where
  -- the row of a command all of whose labels stand for something
  after_labels : (c : Command) → AllByRecursion IsKeptExpression (expressions_of c) → (w : W) → IfDone (row_of t s c w) (Replies P (change_of s c) (rule_after_labels s (formed_by t s c w) c))
  after_labels (said verb os) kept w = (meets verb).replies P t right s sound os kept w

-- the row of each command replies rightly
pub row_replies : {W : Type 0} (P : Part → Type 0) (t : Tester W) → WalksAreRight P t → (s : State) → IsSoundWith P s → (c : Command) → AllByRecursion IsKeptExpression (expressions_of c) → (w : W)
    → IfDone (row t s c w) (Replies P (change_of s c) (rule_without_limits s (formed_by t s c w) c))
row_replies P t right s sound c kept w =
    labels_done (λ r. NewPartsAreOf P (with_parts (change_of s c) r.change)) (first_unknown_among (parts_in s) (expressions_of c)) (first_unknown_among (sets_in s) (expressions_of c)) (unknown_among_same s (expressions_of c))
    (rule_after_labels s (formed_by t s c w) c) (row_of t s c) w (refuses (change_of s c)) (after_labels P t right s sound c kept w)
  where
    refuses : (change : Change Shape) (r : Refusal) → NewPartsAreOf P (with_parts change nothing_changes)
    refuses nothing_changes r = tt
    refuses (name_added k) r = tt
    refuses (lots_replaced ids new) r = tt
    refuses (layer_changed y) r = tt

-- its verdict lines meet the rule
pub verdicts_meet_rule : {W : Type 0} (P : Part → Type 0) (t : Tester W) → WalksAreRight P t → VerdictsMeetRule P t
verdicts_meet_rule P t right s sound c kept w =
    weaker_done (Replies P (change_of s c) (rule_without_limits s (formed_by t s c w) c)) (λ r. rule_without_limits s (formed_by t s c w) c r.verdicts) (row t s c w)
    (row_replies P t right s sound c kept w) (λ r k. k.0)

-- its new parts have the members of the new sets
pub new_parts_are_right : {W : Type 0} (P : Part → Type 0) (t : Tester W) → WalksAreRight P t → NewPartsAreRight P t
new_parts_are_right P t right s sound c kept w =
    weaker_done (Replies P (change_of s c) (rule_without_limits s (formed_by t s c w) c)) (λ r. NewPartsAreOf P (with_parts (change_of s c) r.change)) (row t s c w)
    (row_replies P t right s sound c kept w) (λ r k. k.1)
