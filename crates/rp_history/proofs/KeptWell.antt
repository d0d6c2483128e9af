-- Lots are kept as well after a change as before.
use Rattle.std.proofs.Common.{◌≡◌, ℕ, ◌<◌, List, [], ◌∷◌, map, sym, ap, ◌∙◌, subst}
use Rattle.std.specs.Prelude.{IsTrue, IfSome, false}
use Rattle.std.specs.List.{AllByRecursion}
use Rattle.rp_algebra.proofs.Listed.{all_append}
use Rattle.rp_language.specs.Name.{Label, is_among}
use Rattle.rp_model.specs.states.State.{Lot, NewLot, ids_of, lots_replaced, ended_at, born_at}
use Rattle.rp_model.specs.states.Sound.{are_distinct}
use Rattle.rp_states.proofs.Labels.{distinct_together}
use Rattle.rp_states.proofs.Listing.{all_mapped, all_true}
use Rattle.rp_states.proofs.Replaced.{ended_all, ended_ids, ended_origins, born_ids, ids_after, all_before, origins_together}
use Rattle.rp_history.specs.Lots.{lots_in, lots_after, AreBornBefore, AreKeptWell, AreNew}

-- two facts of all lots
all_both : {S : Type 0} (n : ℕ) (ls : List (Lot S)) → AreBornBefore n ls → AllByRecursion (λ l. IfSome l.ended (λ m. l.born < m)) ls → AllByRecursion (λ l. (l.born < n) × IfSome l.ended (λ m. l.born < m)) ls
all_both n [] h k = tt
all_both n (l ∷ ls) h k = ((h.0, k.0), all_both n ls h.1 k.1)

-- lots that end are kept well
pub well_ended : {S : Type 0} (n : ℕ) (ids : List Label) (lots : List (Lot S)) → AreBornBefore n lots → AreKeptWell lots → AreKeptWell (map (ended_at n ids) lots)
well_ended {S = S} n ids lots born well = record {
  distinct = subst (λ (xs : List Label). IsTrue (are_distinct xs)) (sym (ended_ids n ids lots)) well.distinct;
  ends_after_birth = ended_all (λ (l : Lot S). (l.born < n) × IfSome l.ended (λ m. l.born < m)) (λ (l : Lot S). IfSome l.ended (λ m. l.born < m)) n ids (λ l h. h.0) (λ l h. h.1) lots (all_both n lots born well.ends_after_birth);
  origins_before = ended_origins n ids [] lots well.origins_before;
}

-- and so are lots that are born behind them
pub well_after : {S : Type 0} (n : ℕ) (ids : List Label) (new : List (NewLot S)) (lots : List (Lot S)) → AreBornBefore n lots → AreNew lots new → AreKeptWell lots → AreKeptWell (lots_after n lots (lots_replaced ids new))
well_after {S = S} n ids new lots born fit well =
    let ended = well_ended n ids lots born well in
    record {
      distinct = subst (λ (xs : List Label). IsTrue (are_distinct xs)) (sym (ids_after (lots_in [] lots) n ids new))
          (distinct_together (ids_of lots) (map (λ a. a.id) new) well.distinct fit.distinct (all_mapped (λ (x : Label). is_among x (ids_of lots) ≡ false) (λ (a : NewLot S). a.id) new fit.fresh));
      ends_after_birth = all_append (λ (l : Lot S). IfSome l.ended (λ m. l.born < m)) (map (ended_at n ids) lots) (map (born_at n) new) ended.ends_after_birth
          (all_mapped (λ (l : Lot S). IfSome l.ended (λ m. l.born < m)) (born_at n) new (all_true (λ (a : NewLot S). Unit {0}) (λ a. tt) new));
      origins_before = origins_together [] (map (ended_at n ids) lots) (map (born_at n) new) ended.origins_before
          (all_before (ids_of (map (ended_at n ids) lots)) (map (born_at n) new)
          (all_mapped (λ (l : Lot S). AllByRecursion (λ x. IsTrue (is_among x (ids_of (map (ended_at n ids) lots)))) l.origins) (born_at n) new
          (subst (λ (xs : List Label). AllByRecursion (λ (a : NewLot S). AllByRecursion (λ x. IsTrue (is_among x xs)) a.origins) new) (sym (ended_ids n ids lots)) fit.origins)));
    }

-- new lots that are born have new ids
pub fresh_born : {S : Type 0} (n : ℕ) (ids : List Label) (lots ended : List (Lot S)) (new : List (NewLot S)) (born : List (Lot S)) → ended ≡ map (ended_at n ids) lots → born ≡ map (born_at n) new → AreNew lots new → AllByRecursion (λ l. is_among l.id (ids_of ended) ≡ false) born
fresh_born {S = S} n ids lots ended new born e f h =
    subst (λ (ls : List (Lot S)). AllByRecursion (λ l. is_among l.id (ids_of ended) ≡ false) ls) (sym f)
    (subst (λ (xs : List Label). AllByRecursion (λ (l : Lot S). is_among l.id xs ≡ false) (map (born_at n) new)) (sym (ap ids_of e ∙ ended_ids n ids lots))
    (all_mapped (λ (l : Lot S). is_among l.id (ids_of lots) ≡ false) (born_at n) new h.fresh))

-- and distinct ones
pub distinct_born : {S : Type 0} (n : ℕ) (lots : List (Lot S)) (new : List (NewLot S)) (born : List (Lot S)) → born ≡ map (born_at n) new → AreNew lots new → IsTrue (are_distinct (ids_of born))
distinct_born n lots new born f h = subst (λ (xs : List Label). IsTrue (are_distinct xs)) (sym (ap ids_of f ∙ born_ids n new)) h.distinct
