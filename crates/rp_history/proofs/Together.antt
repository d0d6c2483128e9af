-- A history and the parts of its lots, together.
use Rattle.std.proofs.Common.{◌≡◌, ℕ, zero, suc, ◌+◌, Bool, true, false, ◌&&◌, List, [], ◌∷◌, ◌++◌, map, length, Some, slice_get, sum_by, refl, sym, ap, ap₂, ◌∙◌, subst, arith}
use Rattle.std.specs.Prelude.{IsTrue, option_map}
use Rattle.std.specs.List.{AllByRecursion}
use Rattle.std.proofs.lemmas.List.{length-map, map-append}
use Rattle.std.proofs.lemmas.List.Sums.{sum_by-append, sum_by-cons}
use Rattle.rp_geometry.specs.sets.Shape.{Part}
use Rattle.rp_language.specs.Name.{Label, is_among}
use Rattle.rp_model.specs.states.State.{Lot, NewLot, is_live, ids_of, bare_lot, ended_at, born_at, lots_replaced, parts_under_lots}
use Rattle.rp_model.specs.states.Sound.{are_distinct}
use Rattle.rp_states.proofs.Picked.{pick}
use Rattle.rp_states.proofs.Replaced.{ended_parts, born_parts}
use Rattle.rp_history.specs.declared.lot.Birth.{Birth}
use Rattle.rp_history.specs.Lots.{new_lot_of, lots_after, AreBornBefore, AreNew}
use Rattle.rp_history.specs.Parts.{with_parts, lots_with_parts, new_lots}
use Rattle.rp_history.proofs.Bare.{bare_ids}

-- ---- lots with parts

-- as many lots as there are in the history
pub length-with_parts : {S : Type 0} (ls : List (Lot S)) (lists : List (List Part)) → length ls ≡ length lists → length (lots_with_parts ls lists) ≡ length lists
length-with_parts [] [] e = refl
length-with_parts [] (ps ∷ lists) e = absurd (omega arith)
length-with_parts (l ∷ ls) [] e = absurd (omega arith)
length-with_parts (l ∷ ls) (ps ∷ lists) e = let f : length ls ≡ length lists = omega arith in ap suc (length-with_parts ls lists f)

-- without their parts they are those of the history
pub bare-with_parts : (ls : List (Lot (Unit {0}))) (lists : List (List Part)) → length ls ≡ length lists → map bare_lot (lots_with_parts ls lists) ≡ map bare_lot ls
bare-with_parts [] lists e = refl
bare-with_parts (l ∷ ls) [] e = absurd (omega arith)
bare-with_parts (l ∷ ls) (ps ∷ lists) e = let f : length ls ≡ length lists = omega arith in ap (λ (ks : List (Lot (Unit {0}))). bare_lot l ∷ ks) (bare-with_parts ls lists f)

-- the parts of the lot at a place
pub parts_at : {S : Type 0} (ls : List (Lot S)) (lists : List (List Part)) → length ls ≡ length lists → (k : ℕ) → option_map (λ l. l.parts) (slice_get (lots_with_parts ls lists) k) ≡ slice_get lists k
parts_at [] [] e k = refl
parts_at [] (ps ∷ lists) e k = absurd (omega arith)
parts_at (l ∷ ls) [] e k = absurd (omega arith)
parts_at (l ∷ ls) (ps ∷ lists) e zero = refl
parts_at (l ∷ ls) (ps ∷ lists) e (suc k) = let f : length ls ≡ length lists = omega arith in parts_at ls lists f k

-- two lists of each, one behind the other
with_parts_append : {S : Type 0} (ls ms : List (Lot S)) (lists more : List (List Part)) → length ls ≡ length lists → lots_with_parts (ls ++ ms) (lists ++ more) ≡ lots_with_parts ls lists ++ lots_with_parts ms more
with_parts_append [] ms [] more e = refl
with_parts_append [] ms (ps ∷ lists) more e = absurd (omega arith)
with_parts_append (l ∷ ls) ms [] more e = absurd (omega arith)
with_parts_append (l ∷ ls) ms (ps ∷ lists) more e = let f : length ls ≡ length lists = omega arith in ap (λ ks. with_parts l ps ∷ ks) (with_parts_append ls ms lists more f)

-- a lot that ends keeps its parts
ended_with_parts : {S : Type 0} (n : ℕ) (ids : List Label) (l : Lot S) (ps : List Part) → with_parts (ended_at n ids l) ps ≡ ended_at n ids (with_parts l ps)
ended_with_parts {S = S} n ids l ps = by (is_live l && is_among l.id ids)
  where
    by : (b : Bool) → with_parts (pick b (record l { ended = Some n }) l) ps ≡ pick b (record (with_parts l ps) { ended = Some n }) (with_parts l ps)
    by true = refl
    by false = refl

-- and so do all
pub all_ended_with_parts : {S : Type 0} (n : ℕ) (ids : List Label) (ls : List (Lot S)) (lists : List (List Part)) → lots_with_parts (map (ended_at n ids) ls) lists ≡ map (ended_at n ids) (lots_with_parts ls lists)
all_ended_with_parts n ids [] lists = refl
all_ended_with_parts n ids (l ∷ ls) [] = refl
all_ended_with_parts n ids (l ∷ ls) (ps ∷ lists) = ap₂ ◌∷◌ (ended_with_parts n ids l ps) (all_ended_with_parts n ids ls lists)

-- lots that are born have their parts
all_born_with_parts : (n : ℕ) (births : List Birth) (lists : List (List Part)) → lots_with_parts (map (born_at n) (map new_lot_of births)) lists ≡ map (born_at n) (new_lots births lists)
all_born_with_parts n [] lists = refl
all_born_with_parts n (b ∷ births) [] = refl
all_born_with_parts n (b ∷ births) (ps ∷ lists) = ap₂ ◌∷◌ refl (all_born_with_parts n births lists)

-- lots end, and others are born behind them
pub after_with_parts : (n : ℕ) (ids : List Label) (births : List Birth) (ls : List (Lot (Unit {0}))) (lists more : List (List Part)) → length ls ≡ length lists →
    lots_with_parts (lots_after n ls (lots_replaced ids (map new_lot_of births))) (lists ++ more) ≡ lots_after n (lots_with_parts ls lists) (lots_replaced ids (new_lots births more))
after_with_parts n ids births ls lists more e =
    with_parts_append (map (ended_at n ids) ls) (map (born_at n) (map new_lot_of births)) lists more (length-map ls (ended_at n ids) ∙ e)
    ∙ ap₂ ◌++◌ (all_ended_with_parts n ids ls lists) (all_born_with_parts n births more)

-- ---- through a change

-- a lot that ends without its parts
bare_ended : (n : ℕ) (ids : List Label) (l : Lot (Unit {0})) → bare_lot (ended_at n ids l) ≡ ended_at n ids (bare_lot l)
bare_ended n ids l = ended_with_parts n ids l []

-- lots without parts stay so
pub still_bare : (n : ℕ) (ids : List Label) (births : List Birth) (ls : List (Lot (Unit {0}))) → map bare_lot ls ≡ ls → map bare_lot (lots_after n ls (lots_replaced ids (map new_lot_of births))) ≡ lots_after n ls (lots_replaced ids (map new_lot_of births))
still_bare n ids births ls e = map-append bare_lot (map (ended_at n ids) ls) (map (born_at n) (map new_lot_of births)) ∙ ap₂ ◌++◌ (ended ls ∙ ap (map (ended_at n ids)) e) (born births)
  where
    ended : (ks : List (Lot (Unit {0}))) → map bare_lot (map (ended_at n ids) ks) ≡ map (ended_at n ids) (map bare_lot ks)
    ended [] = refl
    ended (k ∷ ks) = ap₂ ◌∷◌ (bare_ended n ids k) (ended ks)

    born : (bs : List Birth) → map bare_lot (map (born_at n) (map new_lot_of bs)) ≡ map (born_at n) (map new_lot_of bs)
    born [] = refl
    born (b ∷ bs) = ap₂ ◌∷◌ refl (born bs)

-- all lots of the history were born before a later line
pub born_before : (n : ℕ) (ls : List (Lot (Unit {0}))) (lists : List (List Part)) → length ls ≡ length lists → AreBornBefore n (lots_with_parts ls lists) → AreBornBefore n ls
born_before n [] lists e h = tt
born_before n (l ∷ ls) [] e h = absurd (omega arith)
born_before n (l ∷ ls) (ps ∷ lists) e h = let f : length ls ≡ length lists = omega arith in (h.0, born_before n ls lists f h.1)

-- they have the ids of the history
pub ids-with_parts : (ls : List (Lot (Unit {0}))) (lists : List (List Part)) → length ls ≡ length lists → ids_of (lots_with_parts ls lists) ≡ ids_of ls
ids-with_parts ls lists e = sym (bare_ids (lots_with_parts ls lists)) ∙ ap ids_of (bare-with_parts ls lists e) ∙ bare_ids ls

-- new lots are new to the history
pub new_to_history : (ls : List (Lot (Unit {0}))) (lists : List (List Part)) (births : List Birth) (more : List (List Part)) → length ls ≡ length lists → length births ≡ length more → AreNew (lots_with_parts ls lists) (new_lots births more) → AreNew ls (map new_lot_of births)
new_to_history ls lists births more e f h = record {
  fresh = fresh births more f (subst (λ (xs : List Label). AllByRecursion (λ a. is_among a.id xs ≡ false) (new_lots births more)) (ids-with_parts ls lists e) h.fresh);
  distinct = subst (λ (xs : List Label). IsTrue (are_distinct xs)) (ids births more f) h.distinct;
  origins = origins births more f (subst (λ (xs : List Label). AllByRecursion (λ a. AllByRecursion (λ x. IsTrue (is_among x xs)) a.origins) (new_lots births more)) (ids-with_parts ls lists e) h.origins);
}
  where
    fresh : (bs : List Birth) (ms : List (List Part)) → length bs ≡ length ms → AllByRecursion (λ a. is_among a.id (ids_of ls) ≡ false) (new_lots bs ms) → AllByRecursion (λ a. is_among a.id (ids_of ls) ≡ false) (map new_lot_of bs)
    fresh [] ms g k = tt
    fresh (b ∷ bs) [] g k = absurd (omega arith)
    fresh (b ∷ bs) (ps ∷ ms) g k = let i : length bs ≡ length ms = omega arith in (k.0, fresh bs ms i k.1)

    ids : (bs : List Birth) (ms : List (List Part)) → length bs ≡ length ms → map (λ a. a.id) (new_lots bs ms) ≡ map (λ a. a.id) (map new_lot_of bs)
    ids [] ms g = refl
    ids (b ∷ bs) [] g = absurd (omega arith)
    ids (b ∷ bs) (ps ∷ ms) g = let i : length bs ≡ length ms = omega arith in ap (λ (xs : List Label). b.id ∷ xs) (ids bs ms i)

    origins : (bs : List Birth) (ms : List (List Part)) → length bs ≡ length ms → AllByRecursion (λ a. AllByRecursion (λ x. IsTrue (is_among x (ids_of ls))) a.origins) (new_lots bs ms) → AllByRecursion (λ a. AllByRecursion (λ x. IsTrue (is_among x (ids_of ls))) a.origins) (map new_lot_of bs)
    origins [] ms g k = tt
    origins (b ∷ bs) [] g k = absurd (omega arith)
    origins (b ∷ bs) (ps ∷ ms) g k = let i : length bs ≡ length ms = omega arith in (k.0, origins bs ms i k.1)

-- the parts after a change
pub parts_after : (n : ℕ) (ids : List Label) (new : List (NewLot (Unit {0}))) (lots : List (Lot (Unit {0}))) → parts_under_lots (lots_after n lots (lots_replaced ids new)) ≡ parts_under_lots lots + sum_by (λ a. length a.parts) new
parts_after n ids new lots = sum_by-append (λ (l : Lot (Unit {0})). length l.parts) (map (ended_at n ids) lots) (map (born_at n) new) ∙ ap₂ ◌+◌ (ended_parts n ids lots) (born_parts n new)

-- the parts of new lots are those of their regions
pub new_parts : (births : List Birth) (lists : List (List Part)) → length births ≡ length lists → sum_by (λ a. length a.parts) (new_lots births lists) ≡ sum_by (λ ps. length ps) lists
new_parts [] [] e = refl
new_parts [] (ps ∷ lists) e = absurd (omega arith)
new_parts (b ∷ births) [] e = absurd (omega arith)
new_parts (b ∷ births) (ps ∷ lists) e = let f : length births ≡ length lists = omega arith in
    sum_by-cons (λ (a : NewLot (Unit {0})). length a.parts) (record { id = b.id; layer = b.layer; set = tt; parts = ps; origins = b.origins.items }) (new_lots births lists)
    ∙ ap (λ (n : ℕ). length ps + n) (new_parts births lists f)
    ∙ sym (sum_by-cons (λ (qs : List Part). length qs) ps lists)
