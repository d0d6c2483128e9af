-- The number of the next line is above those of all lines before it.
use Rattle.std.proofs.Common.{◌≡◌, ℕ, suc, ◌+◌, ◌<◌, List, ◌++◌, map, Option, Some, None, sym, subst, arith, add-one}
use Rattle.std.specs.Prelude.{IfSome, Result, Ok, Err, OnOk}
use Rattle.std.specs.List.{AllByRecursion}
use Rattle.rp_algebra.proofs.Listed.{all_append}
use Rattle.rp_geometry.specs.sets.Shape.{Shape}
use Rattle.rp_language.specs.Grammar.{Reading, blank, command, bad, reading}
use Rattle.rp_language.specs.Name.{Label}
use Rattle.rp_model.specs.states.State.{Lot, NewLot, PlainState, lot_of_parts, state_of_parts, ended_at, born_at, Change, nothing_changes, name_added, lots_replaced, layer_changed, changed}
use Rattle.rp_model.specs.states.Sound.{IsLaterThan}
use Rattle.rp_model.specs.commands.Rule.{walked}
use Rattle.rp_reports.specs.Machine.{change_walked, state_read, step_state, Running, after_line}
use Rattle.rp_states.proofs.Added.{still_later}
use Rattle.rp_states.proofs.Listing.{all_mapped, all_unmapped, all_true}
use Rattle.rp_states.proofs.Replaced.{ended_all}

-- a lot of parts
abbrev PlainLot : Type 0
PlainLot = Lot (Unit {0})

-- an end below a number is below the next
end_before : (n : ℕ) (o : Option ℕ) → IfSome o (λ m. m < n) → IfSome o (λ m. m < suc n)
end_before n None h = tt
end_before n (Some m) h = omega arith

-- the lots after a change
lots_later : (n : ℕ) (lots : List PlainLot) (ids : List Label) (new : List (NewLot (Unit {0}))) (P Q : PlainLot → Type 0) → ((l : PlainLot) → P l → Q (record l { ended = Some n })) → ((l : PlainLot) → P l → Q l) → ((a : NewLot (Unit {0})) → Q (born_at n a)) → AllByRecursion P lots
    → AllByRecursion Q (map (ended_at n ids) lots ++ map (born_at n) new)
lots_later n lots ids new P Q at_end stays at_birth h =
    all_append Q (map (ended_at n ids) lots) (map (born_at n) new) (ended_all P Q n ids at_end stays lots h) (all_mapped Q (born_at n) new (all_true (λ (a : NewLot (Unit {0})). Q (born_at n a)) at_birth new))

-- the next number is later than a change by the line
changed_later : (s : PlainState) (n : ℕ) → IsLaterThan n (state_of_parts s) → (c : Change (Unit {0})) → IsLaterThan (suc n) (state_of_parts (changed n s c))
changed_later s n h nothing_changes = still_later n (state_of_parts s) h
changed_later s n h (name_added k) = let later = still_later n (state_of_parts s) h in record { births = later.births; ends = later.ends }
changed_later s n h (layer_changed y) = let later = still_later n (state_of_parts s) h in record { births = later.births; ends = later.ends }
changed_later s n h (lots_replaced ids new) = record {
  births = all_mapped (λ (l : Lot Shape). l.born < suc n) lot_of_parts (map (ended_at n ids) s.lots ++ map (born_at n) new)
      (lots_later n s.lots ids new (λ l. l.born < n) (λ l. l.born < suc n) (λ l k. omega arith) (λ l k. omega arith) (λ a. omega arith) (all_unmapped (λ (l : Lot Shape). l.born < n) lot_of_parts s.lots h.births));
  ends = all_mapped (λ (l : Lot Shape). IfSome l.ended (λ m. m < suc n)) lot_of_parts (map (ended_at n ids) s.lots ++ map (born_at n) new)
      (lots_later n s.lots ids new (λ l. IfSome l.ended (λ m. m < n)) (λ l. IfSome l.ended (λ m. m < suc n)) (λ l k. let e : n < suc n = omega arith in e) (λ l k. end_before n l.ended k) (λ a. tt) (all_unmapped (λ (l : Lot Shape). IfSome l.ended (λ m. m < n)) lot_of_parts s.lots h.ends));
}

-- it is later than a line that is read so
read_later : (s : PlainState) (n : ℕ) → IsLaterThan n (state_of_parts s) → (r : Reading) → IsLaterThan (suc n) (state_of_parts (state_read s n r))
read_later s n h blank = still_later n (state_of_parts s) h
read_later s n h (bad f) = still_later n (state_of_parts s) h
read_later s n h (command c) = changed_later s n h (change_walked (walked s c))

-- so it is after a line that was answered
pub next_later : {A E : Type 0} (r : Result A E) (m next : Running) (n : ℕ) (line : List ℕ) → IsLaterThan n (state_of_parts m.state) → OnOk r (next ≡ after_line m n line) → OnOk r (IsLaterThan (n + 1) (state_of_parts next.state))
unfolding step_state
next_later (Ok a) m next n line h after =
    subst (λ (k : ℕ). IsLaterThan k (state_of_parts next.state)) (sym (add-one n)) (subst (λ (t : Running). IsLaterThan (suc n) (state_of_parts t.state)) (sym after) (read_later m.state n h (reading m.version line)))
next_later (Err e) m next n line h after = tt
