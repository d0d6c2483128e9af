-- In a sound state an audit is stopped by limits alone, so its pairs may be judged one by one.
use Rattle.std.proofs.Common.{◌≡◌, ℕ, Bool, List, [], refl, sym, ap, ◌∙◌, subst}
use Rattle.rp_geometry.specs.parts.Parts.{IsPart}
use Rattle.rp_language.specs.Expression.{ask_audit}
use Rattle.rp_semantics.specs.Walk.{limit_met, taken_wrong, Outcome, done, stopped, Walk, Work, pass, after_first, first_tester}
use Rattle.rp_model.specs.states.State.{Lot, PlainState, state_of_parts}
use Rattle.rp_model.specs.states.Sound.{IsSound}
use Rattle.rp_model.specs.commands.Verdict.{clear}
use Rattle.rp_model.specs.commands.Reply.{Reply, reply}
use Rattle.rp_model.specs.commands.Parts.{lot_parts}
use Rattle.rp_model.specs.commands.Audit.{row_audit}
use Rattle.rp_states.proofs.Parted.{same_lots}
use Rattle.rp_states.proofs.PlainRows.{row_same}
use Rattle.rp_row_soundness.proofs.Right.{first_walks_are_right}
use Rattle.rp_row_soundness.proofs.RowStops.{row_stops, first_only_limits}
use Rattle.rp_row_soundness.proofs.Stops.{StopsAtLimit}
use Rattle.rp_proximity.specs.declared.reach.Reach.TheVariants.{Overlap}
use Rattle.rp_contacts.specs.declared.pair.Pair.{Pair}
use Rattle.rp_contacts.specs.Apart.{apart_each}
use Rattle.rp_contacts.proofs.Apart.{none_meet}
use Rattle.rp_contacts.proofs.Judging.{meet_pairs}

-- what is stopped by limits alone is not stopped by a line
no_line : {A : Type 0} (o : Outcome Work A) (v : Work) → StopsAtLimit o → o ≡ stopped taken_wrong v → ⊥
no_line o v h e = let f : taken_wrong ≡ limit_met = subst StopsAtLimit e h in absurd (cc)

module _ (s : PlainState) (sound : IsSound (state_of_parts s)) where
  -- the row is stopped by limits alone
  limited : (w : Work) → StopsAtLimit (row_audit first_tester s w)
  limited w =
      subst (λ (ls : List (Lot (Unit {0}))). StopsAtLimit (row_audit first_tester (record { layer = s.layer; names = s.names; lots = ls }) w)) (same_lots s.lots)
      (subst (λ (walk : Walk Work Reply). StopsAtLimit (walk w)) (sym (row_same first_tester (state_of_parts s) ask_audit)) (row_stops first_tester first_only_limits IsPart first_walks_are_right (state_of_parts s) sound ask_audit w))

  -- so the tests of each pair are left
  pub audit_met : (live : ℕ) (pairs : List Pair) (w u : Work) → row_audit first_tester s w ≡ after_first (λ _. pass (reply (clear live))) (apart_each first_tester (lot_parts s.lots) pairs u) →
      row_audit first_tester s w ≡ after_first (λ _. pass (reply (clear live))) (meet_pairs first_tester Overlap (lot_parts s.lots) pairs u)
  audit_met live pairs w u left = left ∙ ap (after_first (λ _. told)) (none_meet first_tester (lot_parts s.lots) pairs [] u none) ∙ once (meet_pairs first_tester Overlap (lot_parts s.lots) pairs u)
    where
      told : Walk Work Reply
      told = pass (reply (clear live))

      none : (v : Work) → apart_each first_tester (lot_parts s.lots) pairs u ≡ stopped taken_wrong v → ⊥
      none v h = no_line (row_audit first_tester s w) v (limited w) (left ∙ ap (after_first (λ _. told)) h)

      once : (o : Outcome Work (List Bool)) → after_first (λ _. told) (after_first (λ _. pass {A = Unit {0}} tt) o) ≡ after_first (λ _. told) o
      once (done met v) = refl
      once (stopped why v) = refl
