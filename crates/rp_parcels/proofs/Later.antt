-- A line behind a change is later than all that was changed.
use Rattle.std.proofs.Common.{ℕ, ◌+◌, ◌<◌, List, ◌++◌, map, Option, Some, None, arith}
use Rattle.std.specs.Prelude.{IfSome}
use Rattle.rp_algebra.proofs.Listed.{all_append}
use Rattle.rp_geometry.specs.sets.Shape.{Shape}
use Rattle.rp_language.specs.Name.{Label}
use Rattle.rp_model.specs.states.State.{Lot, NewLot, lot_of_parts, ended_at, born_at, lots_replaced}
use Rattle.rp_states.proofs.Listing.{all_mapped, all_unmapped, all_true}
use Rattle.rp_states.proofs.Replaced.{ended_all}
use Rattle.rp_history.specs.Lots.{lots_after}
use Rattle.rp_parcels.specs.Register.{IsLater}

-- an end before a line is before the next
end_before : (n : ℕ) (o : Option ℕ) → IfSome o (λ m. m < n) → IfSome o (λ m. m < n + 1)
end_before n None h = tt
end_before n (Some m) h = omega (arith, h)

-- after a change the next line is later
pub later_after : (n : ℕ) (lots : List (Lot (Unit {0}))) (ids : List Label) (new : List (NewLot (Unit {0}))) → IsLater n lots → IsLater (n + 1) (lots_after n lots (lots_replaced ids new))
later_after n lots ids new h = record {
  births = all_mapped (λ (l : Lot Shape). l.born < n + 1) lot_of_parts (map (ended_at n ids) lots ++ map (born_at n) new)
      (all_append (λ (l : Lot (Unit {0})). l.born < n + 1) (map (ended_at n ids) lots) (map (born_at n) new)
      (ended_all (λ (l : Lot (Unit {0})). l.born < n) (λ (l : Lot (Unit {0})). l.born < n + 1) n ids (λ l k. omega (arith, k)) (λ l k. omega (arith, k)) lots (all_unmapped (λ (l : Lot Shape). l.born < n) lot_of_parts lots h.births))
      (all_mapped (λ (l : Lot (Unit {0})). l.born < n + 1) (born_at n) new (all_true (λ (a : NewLot (Unit {0})). n < n + 1) (λ a. omega arith) new)));
  ends = all_mapped (λ (l : Lot Shape). IfSome l.ended (λ m. m < n + 1)) lot_of_parts (map (ended_at n ids) lots ++ map (born_at n) new)
      (all_append (λ (l : Lot (Unit {0})). IfSome l.ended (λ m. m < n + 1)) (map (ended_at n ids) lots) (map (born_at n) new)
      (ended_all (λ (l : Lot (Unit {0})). IfSome l.ended (λ m. m < n)) (λ (l : Lot (Unit {0})). IfSome l.ended (λ m. m < n + 1)) n ids (λ l k. omega arith) (λ l k. end_before n l.ended k) lots (all_unmapped (λ (l : Lot Shape). IfSome l.ended (λ m. m < n)) lot_of_parts lots h.ends))
      (all_mapped (λ (l : Lot (Unit {0})). IfSome l.ended (λ m. m < n + 1)) (born_at n) new (all_true (λ (a : NewLot (Unit {0})). Unit {0}) (λ a. tt) new)));
}
