-- A change that leaves a sound state can be made: what is new is new to the names and to the lots, and it is few.
use Rattle.std.proofs.Common.{◌≡◌, ℕ, ◌<◌, ◌≤◌, Bool, false, ◌||◌, not, List, [], ◌∷◌, ◌++◌, map, length, refl, ap, ◌∙◌, subst, arith}
use Rattle.std.specs.Prelude.{IsTrue}
use Rattle.std.specs.List.{AllByRecursion}
use Rattle.std.proofs.lemmas.Bool.{or_parts, not-true}
use Rattle.std.proofs.lemmas.List.{length-map, length_push, map-append}
use Rattle.std.proofs.lemmas.List.Sums.{sum_by_push}
use Rattle.rp_algebra.proofs.Tests.{and_first, and_second, false_not_true, false_unless}
use Rattle.rp_algebra.proofs.Lists.{images_twice}
use Rattle.rp_geometry.specs.sets.Shape.{Shape, Part}
use Rattle.rp_geometry.specs.sets.Sets.{IsNonempty}
use Rattle.rp_language.specs.Name.{Label, label_eq, is_among}
use Rattle.rp_model.specs.states.State.{Kept, Lot, NewLot, PlainState, kept_of_parts, lot_of_parts, state_of_parts, names_of, ids_of, changed, lots_replaced, parts_under_lots, most_names, most_kept_parts, kept_under}
use Rattle.rp_model.specs.states.Sound.{are_distinct, IsLaterThan}
use Rattle.rp_states.proofs.Labels.{among_right, label_turned}
use Rattle.rp_states.proofs.Listing.{all_unmapped}
use Rattle.rp_states.proofs.Plain.{image_sums}
use Rattle.rp_states.proofs.Replaced.{ids_after}
use Rattle.rp_history.specs.Lots.{AreBornBefore, AreNew}
use Rattle.rp_history.proofs.Sizes.{as_many_parts}
use Rattle.rp_store.specs.Kept.{IsNewName, AreFew, state_with}
use Rattle.rp_register_state.specs.Kept.{IsSoundByParts, ComesFromKnown}

-- ---- labels that are distinct

-- a label that is not among two lists is not among the second
not_among_right : (x : Label) (xs ys : List Label) → is_among x (xs ++ ys) ≡ false → is_among x ys ≡ false
not_among_right x xs ys e = false_unless (is_among x ys) (λ t. false_not_true (is_among x (xs ++ ys)) (among_right x xs ys t) e)

-- labels that are not among a list are not among it with one more, which is not among them
apart_from_more : (x : Label) (xs zs : List Label) → is_among x zs ≡ false → AllByRecursion (λ z. is_among z xs ≡ false) zs → AllByRecursion (λ z. is_among z (x ∷ xs) ≡ false) zs
apart_from_more x xs [] e h = tt
apart_from_more x xs (z ∷ zs) e h =
    let p = or_parts (label_eq x z) (is_among x zs) e in
    (ap (λ (b : Bool). b || is_among z xs) (label_turned x z p.0) ∙ h.0, apart_from_more x xs zs p.1 h.1)

-- where all labels of two lists are distinct, those of the second are, and they are not among the first
pub distinct_apart : (xs ys : List Label) → IsTrue (are_distinct (xs ++ ys)) → AllByRecursion (λ y. is_among y xs ≡ false) ys × IsTrue (are_distinct ys)
distinct_apart [] ys h = (none ys, h)
  where
    none : (zs : List Label) → AllByRecursion (λ z. is_among z [] ≡ false) zs
    none [] = tt
    none (z ∷ zs) = (refl, none zs)
distinct_apart (x ∷ xs) ys h =
    let alone = not-true (is_among x (xs ++ ys)) (and_first (not (is_among x (xs ++ ys))) (are_distinct (xs ++ ys)) h) in
    let later = distinct_apart xs ys (and_second (not (is_among x (xs ++ ys))) (are_distinct (xs ++ ys)) h) in
    (apart_from_more x xs ys (not_among_right x xs ys alone) later.0, later.1)

-- ---- a new name

-- a name that a sound state has last is new, and there is room for it
pub name_is_new : (y : Label) (ks : List (Kept (Unit {0}))) (lots : List (Lot (Unit {0}))) (x : Label) (ps : List Part) → IsSoundByParts (state_with y (ks ++ kept_under x ps ∷ []) lots) → IsNewName ks x ps
name_is_new y ks lots x ps h =
    let all = ks ++ kept_under x ps ∷ [] in
    let names : names_of (map kept_of_parts all) ≡ names_of ks ++ x ∷ [] = images_twice kept_of_parts (λ (k : Kept Shape). k.name) all ∙ map-append (λ (k : Kept (Unit {0})). k.name) ks (kept_under x ps ∷ []) in
    record {
      fresh = (distinct_apart (names_of ks) (x ∷ []) (subst (λ (xs : List Label). IsTrue (are_distinct xs)) names h.names_distinct)).0.0;
      few_names = subst (λ (n : ℕ). n ≤ most_names) (length-map all kept_of_parts ∙ length_push ks (kept_under x ps)) h.few_names;
      few_parts = subst (λ (n : ℕ). n ≤ most_kept_parts) (image_sums kept_of_parts (λ (k : Kept Shape). length k.parts) all ∙ sum_by_push (λ (k : Kept (Unit {0})). length k.parts) ks (kept_under x ps)) h.few_parts_under_names;
    }

-- ---- lots

-- the lots of a sound state are few, and so are their parts
pub sound_are_few : (s : PlainState) → IsSoundByParts s → AreFew s.lots
sound_are_few s h =
    let few : parts_under_lots s.lots ≤ most_kept_parts = subst (λ (n : ℕ). n ≤ most_kept_parts) (image_sums lot_of_parts (λ (l : Lot Shape). length l.parts) s.lots) h.few_parts_under_lots in
    let many = as_many_parts s.lots (all_unmapped (λ (l : Lot Shape). IsNonempty l.set) lot_of_parts s.lots h.lots_nonempty) in
    record { few_lots = omega (arith, few, many); few_parts = few }

-- their ids are distinct
pub sound_ids : (s : PlainState) → IsSoundByParts s → IsTrue (are_distinct (ids_of s.lots))
sound_ids s h = subst (λ (xs : List Label). IsTrue (are_distinct xs)) (images_twice lot_of_parts (λ (l : Lot Shape). l.id) s.lots) h.ids_distinct

-- the lots of a state were born before a later line
pub later_births : (n : ℕ) (s : PlainState) → IsLaterThan n (state_of_parts s) → AreBornBefore n s.lots
later_births n s h = all_unmapped (λ (l : Lot Shape). l.born < n) lot_of_parts s.lots h.births

-- lots that a sound state has last are new to those before
pub lots_are_new : (n : ℕ) (s : PlainState) (ids : List Label) (new : List (NewLot (Unit {0}))) → ComesFromKnown s (lots_replaced ids new) → IsSoundByParts (changed n s (lots_replaced ids new)) → AreNew s.lots new
lots_are_new n s ids new known h =
    let all = subst (λ (xs : List Label). IsTrue (are_distinct xs)) (ids_after s n ids new) (sound_ids (changed n s (lots_replaced ids new)) h) in
    let apart = distinct_apart (ids_of s.lots) (map (λ a. a.id) new) all in
    record {
      fresh = all_unmapped (λ (x : Label). is_among x (ids_of s.lots) ≡ false) (λ (a : NewLot (Unit {0})). a.id) new apart.0;
      distinct = apart.1;
      origins = known;
    }
