-- What a row changes is a change that a sound state takes.
use Rattle.std.proofs.Common.{◌≡◌, ℕ, ◌<◌, List, [], ◌∷◌, map, refl, sym, ap, ◌∙◌, subst}
use Rattle.std.specs.Prelude.{IsTrue, IfSome, IfOk, Result, Ok, Err}
use Rattle.std.specs.List.{AllByRecursion}
use Rattle.rp_algebra.proofs.Lists.{images_twice}
use Rattle.rp_algebra.proofs.Listed.{all_map}
use Rattle.rp_geometry.specs.sets.Shape.{Shape, Part}
use Rattle.rp_geometry.specs.parts.Parts.{AreOf, IsCheckedPart}
use Rattle.rp_language.specs.Name.{Label, is_among}
use Rattle.rp_language.specs.Expression.{Command, IsKeptExpression, expressions_of}
use Rattle.rp_semantics.specs.Walk.{Outcome, done, stopped, Walk, Tester}
use Rattle.rp_semantics.specs.FormLaws.{IfDone}
use Rattle.rp_model.specs.states.State.{Kept, Lot, NewLot, State, PlainState, plain_kept, plain_lot, parts_only, kept_of_parts, lot_of_parts, state_of_parts, ids_of, Change, nothing_changes, name_added, lots_replaced, layer_changed, changed}
use Rattle.rp_model.specs.states.Sound.{IsSoundWith, IsLaterThan}
use Rattle.rp_model.specs.commands.Reply.{Reply as ModelReply}
use Rattle.rp_model.specs.commands.Row.{row}
use Rattle.rp_model.specs.commands.Rule.{formed_by, rule_without_limits, change_of, with_parts}
use Rattle.rp_reports.specs.laws.RowLaws.{IsSoundChange, IsRightReply, RowIsRight}
use Rattle.rp_states.proofs.Computed.{changed_plain, reply_plain}
use Rattle.rp_states.proofs.Listing.{all_mapped}
use Rattle.rp_states.proofs.Parted.{parts_are_sound, read_plain, same_lots}
use Rattle.rp_states.proofs.PlainRows.{row_same}
use Rattle.rp_states.proofs.Replies.{plain_new, plain_change, IsFitReply, row_fit}
use Rattle.rp_states.proofs.Steps.{change_step}
use Rattle.rp_answer.specs.declared.reply.RowEnd.{RowEnd}
use Rattle.rp_register_state.specs.declared.reply.Reply.{Reply}
use Rattle.rp_register_state.specs.declared.reply.Reply.TheVariants.{Told, Changed}
use Rattle.rp_register_state.specs.Kept.{ComesFromKnown}
use Rattle.rp_register_state.specs.Rows.{change_in, Replies}
use Rattle.rp_register_state.specs.Taken.{IsTaken}

-- ---- states of parts and of sets

-- names without their sets again
same_names : (ks : List (Kept (Unit {0}))) → map plain_kept (map kept_of_parts ks) ≡ ks
same_names [] = refl
same_names (k ∷ ks) = ap (λ (js : List (Kept (Unit {0}))). k ∷ js) (same_names ks)

-- the parts of the sets that parts make are those parts
pub plain_parts : (p : PlainState) → parts_only (state_of_parts p) ≡ p
plain_parts p = λ i. record { layer = p.layer; names = same_names p.names i; lots = same_lots p.lots i }

-- the parts of a sound state are sound
pub sound_by_parts : (P : Part → Type 0) (s : State) (p : PlainState) → IsSoundWith P s → parts_only s ≡ p → IsSoundWith P (state_of_parts p)
sound_by_parts P s p sound e = subst (λ (q : PlainState). IsSoundWith P (state_of_parts q)) e (subst (λ (u : State). IsSoundWith P u) (sym (read_plain s)) (parts_are_sound P s sound))

-- a number that is above the births and ends of a state is above those of its parts
pub later_by_parts : (n : ℕ) (s : State) (p : PlainState) → IsLaterThan n s → parts_only s ≡ p → IsLaterThan n (state_of_parts p)
later_by_parts n s p late e = subst (λ (q : PlainState). IsLaterThan n (state_of_parts q)) e (subst (λ (u : State). IsLaterThan n u) (sym (read_plain s)) (record {
  births = all_mapped (λ (l : Lot Shape). l.born < n) lot_of_parts s.lots late.births;
  ends = all_mapped (λ (l : Lot Shape). IfSome l.ended (λ m. m < n)) lot_of_parts s.lots late.ends;
}))

-- lists of parts of which each is checked
checked_of : (P : Part → Type 0) → ((q : Part) → P q → IsCheckedPart q) → (a : Shape) (parts : List Part) → AreOf P a parts → AreOf IsCheckedPart a parts
checked_of P checked a parts of = record { all = record { few = of.all.few; each = all_map P IsCheckedPart checked parts of.all.each }; members = of.members }

-- a state that is sound with parts of which each is checked is sound
pub sound_where_checked : (P : Part → Type 0) → ((q : Part) → P q → IsCheckedPart q) → (s : State) → IsSoundWith P s → IsSoundWith IsCheckedPart s
sound_where_checked P checked s sound = record {
  names_keep_parts = all_map (λ (k : Kept Shape). AreOf P k.set k.parts) (λ (k : Kept Shape). AreOf IsCheckedPart k.set k.parts) (λ k. checked_of P checked k.set k.parts) s.names sound.names_keep_parts;
  lots_keep_parts = all_map (λ (l : Lot Shape). AreOf P l.set l.parts) (λ (l : Lot Shape). AreOf IsCheckedPart l.set l.parts) (λ l. checked_of P checked l.set l.parts) s.lots sound.lots_keep_parts;
  names_distinct = sound.names_distinct;
  ids_distinct = sound.ids_distinct;
  live_lots_apart = sound.live_lots_apart;
  lots_nonempty = sound.lots_nonempty;
  few_names = sound.few_names;
  few_parts_under_names = sound.few_parts_under_names;
  few_parts_under_lots = sound.few_parts_under_lots;
  ends_after_birth = sound.ends_after_birth;
  origins_before = sound.origins_before;
  origins_of_layer = sound.origins_of_layer;
}

-- ---- rows

-- a change that a sound state takes brings lots of known origins
from_known : (P : Part → Type 0) (s : State) (d : Change Shape) → IsSoundChange P s d → ComesFromKnown (parts_only s) (plain_change d)
from_known P s nothing_changes h = tt
from_known P s (name_added k) h = tt
from_known P s (layer_changed y) h = tt
from_known P s (lots_replaced ids new) h =
    all_mapped (λ (a : NewLot (Unit {0})). AllByRecursion (λ x. IsTrue (is_among x (ids_of (parts_only s).lots))) a.origins) plain_new new
    (subst (λ (xs : List Label). AllByRecursion (λ (a : NewLot Shape). AllByRecursion (λ x. IsTrue (is_among x xs)) a.origins) new) (sym (images_twice plain_lot (λ (l : Lot (Unit {0})). l.id) s.lots)) h.origins)

-- the row of a command in a sound state, by a tester whose rows are right
module _ {W : Type 0} (P : Part → Type 0) (t : Tester W) (right : RowIsRight P t) (p : PlainState) (sound : IsSoundWith P (state_of_parts p)) (n : ℕ) (late : IsLaterThan n (state_of_parts p)) (c : Command) (kept : AllByRecursion IsKeptExpression (expressions_of c)) (w : W) where
  -- what the reply changes is taken
  reply_taken : (r : ModelReply) → IsFitReply (state_of_parts p) c r → IsSoundChange P (state_of_parts p) (with_parts (change_of (state_of_parts p) c) r.change) → IsTaken P n p r.change
  reply_taken r fit takes =
      let s = state_of_parts p in
      let d = with_parts (change_of s c) r.change in
      let plain : plain_change d ≡ r.change = reply_plain s c r fit in
      record {
        sound = sound_by_parts P (changed n s d) (changed n p r.change) (change_step P s sound n late d takes) (changed_plain n s d ∙ ap (changed n (parts_only s)) plain ∙ ap (λ (q : PlainState). changed n q r.change) (plain_parts p));
        known = subst (λ (q : PlainState). ComesFromKnown q r.change) (plain_parts p) (subst (ComesFromKnown (parts_only s)) plain (from_known P s d takes));
      }

  -- the same of what the row comes to
  pub row_taken : IfDone (row t p c w) (λ r. IsTaken P n p r.change)
  row_taken =
      subst (λ (q : PlainState). IfDone (row t q c w) (λ r. IsTaken P n p r.change)) (plain_parts p)
      (subst (λ (walk : Walk W ModelReply). IfDone (walk w) (λ r. IsTaken P n p r.change)) (sym (row_same t (state_of_parts p) c))
      (by (row t (state_of_parts p) c w) (row_fit t (state_of_parts p) sound.few_parts_under_lots c w) (right (state_of_parts p) sound c kept w)))
    where
      by : (o : Outcome W ModelReply) → IfDone o (IsFitReply (state_of_parts p) c) → IfDone o (IsRightReply P (state_of_parts p) (change_of (state_of_parts p) c) (rule_without_limits (state_of_parts p) (formed_by t (state_of_parts p) c w) c)) → IfDone o (λ r. IsTaken P n p r.change)
      by (done r u) fit h = reply_taken r fit h.1
      by (stopped e u) fit h = tt

  -- and of the reply that was made of it
  pub reply_is_taken : {F : Type 0} (view : F → List Part) (u : W) (r : Result (Reply F) RowEnd) → Replies view r u (row t p c w) → IfOk r (λ x. IsTaken P n p (change_in view x))
  reply_is_taken view u (Ok (Told lines)) h = subst (λ (o : Outcome W ModelReply). IfDone o (λ r. IsTaken P n p r.change)) h row_taken
  reply_is_taken view u (Ok (Changed d)) h = subst (λ (o : Outcome W ModelReply). IfDone o (λ r. IsTaken P n p r.change)) h row_taken
  reply_is_taken view u (Err e) h = tt

-- a change that is taken with parts of which each is checked is taken
pub taken_where_checked : (P : Part → Type 0) → ((q : Part) → P q → IsCheckedPart q) → (n : ℕ) (p : PlainState) (d : Change (Unit {0})) → IsTaken P n p d → IsTaken IsCheckedPart n p d
taken_where_checked P checked n p d h = record { sound = sound_where_checked P checked (state_of_parts (changed n p d)) h.sound; known = h.known }
