-- The lots that an index doesn't answer are passed over; those that it answers besides are not near.
use Rattle.std.proofs.Common.{◌≡◌, ◌≢◌, ℕ, zero, suc, ◌+◌, ◌-◌, ◌<◌, ◌≤◌, ◌==◌, eqb, Bool, true, false, ◌&&◌, ◌||◌, not, cond, List, [], ◌∷◌, ◌++◌, ⊎_elim, map, filter, length, drop, Option, Some, None, slice_get, refl, sym, ap, ◌∙◌, subst, arith}
use Rattle.std.specs.Prelude.{option_map}
use Rattle.std.specs.List.{AllByRecursion, dedup, dedup_from}
use Rattle.std.specs.List.Retain.{IsFiltered, DiffersFromLast}
use Rattle.std.specs.List.Sorted.{IsStrictlySortedBy, IsSorted, IsPermutation}
use Rattle.std.specs.Ordering.{nat_cmp}
use Rattle.std.specs.Option.{option_to_list}
use Rattle.std.specs.declared.cmp.Ordering.TheVariants.{Less}
use Rattle.std.proofs.lemmas.Bool.Decides.{nat_tests, Decides-eqb}
use Rattle.std.proofs.lemmas.List.{drop_all, length-map}
use Rattle.std.proofs.lemmas.List.Filters.{dedup_is}
use Rattle.std.proofs.lemmas.List.Kept.{IsStrictlySortedBy-filter}
use Rattle.std.proofs.lemmas.List.Sorted.{list_any-IsPermutation}
use Rattle.std.proofs.lemmas.List.Sums.{sum_by-cons}
use Rattle.std.proofs.lemmas.Map.Keys.{sorted_head, sorted_tail, sorted_from_strictly_increasing, IsStrictlyIncreasing-dedup}
use Rattle.std.proofs.lemmas.Option.{get_or_from_slice_get, slice_get-map}
use Rattle.rp_algebra.proofs.Filter.{kept, keeps}
use Rattle.rp_algebra.proofs.Listed.{Listed, first, later, all_map, all_of}
use Rattle.rp_algebra.proofs.Numbers.{same_or_not}
use Rattle.rp_algebra.proofs.Lists.{get_some, drop_item, all_filter}
use Rattle.rp_algebra.proofs.Tests.{same_test, and_first, and_second, and_true}
use Rattle.rp_geometry.specs.Geometry.{IntegerBox}
use Rattle.rp_geometry.specs.sets.Shape.{Part}
use Rattle.rp_language.specs.Name.{Label, label_eq}
use Rattle.rp_model.specs.states.State.{Lot, is_live, live_lots, lots_of_layer, other_lots, bare_lot}
use Rattle.rp_model.specs.commands.Parts.{count_pairs, lot_parts}
use Rattle.rp_boxindex.specs.Boxes.{Boxes}
use Rattle.rp_proximity.specs.declared.reach.Reach.{Reach}
use Rattle.rp_proximity.proofs.Pairs.{others_first}
use Rattle.rp_lotindex.specs.Indexed.{NoneBehind}
use Rattle.rp_proximity.specs.Near.{may_meet, others_in, pairs_with, is_near, is_other_in, is_other_at, lots_at, AreWithin}
use Rattle.rp_lotindex.specs.Near.{places_met, is_listed, AreOthers, AreNear}
use Rattle.rp_lotindex.proofs.Reached.{number_listed, listed_number, AreInOrder, met_within, AreAllNear, places_near}

-- a number below which none is
below_less : (a b : ℕ) → nat_cmp a b ≡ Less → a < b
below_less a b h = grind (arith, nat_tests)

module _ (r : Reach) (ps : List Part) (y x : Label) where
  -- the others that are near
  abbrev pub chosen : List (Lot (Unit {0})) → List (Lot (Unit {0}))
  chosen ls = filter (is_near r ps) (others_in y x ls)

  -- the first lot is one of them, or not
  chosen_first : (l : Lot (Unit {0})) (ls : List (Lot (Unit {0}))) → chosen (l ∷ ls) ≡ cond (is_other_in y x l && is_near r ps l) (l ∷ chosen ls) (chosen ls)
  chosen_first l ls = ap (filter (is_near r ps)) (others_first y x l ls) ∙ by (is_other_in y x l)
    where
      by : (b : Bool) → filter (is_near r ps) (cond b (l ∷ others_in y x ls) (others_in y x ls)) ≡ cond (b && is_near r ps l) (l ∷ chosen ls) (chosen ls)
      by true = refl
      by false = refl

  -- a lot that is ended, of another layer or not near is passed over
  passed : (l : Lot (Unit {0})) (ls : List (Lot (Unit {0}))) → (is_live l ≡ true → label_eq l.layer y ≡ true → is_near r ps l ≡ true → ⊥) → chosen (l ∷ ls) ≡ chosen ls
  passed l ls n = chosen_first l ls ∙ ap (λ (b : Bool). cond b (l ∷ chosen ls) (chosen ls)) (by (is_live l) (label_eq l.layer y) (is_near r ps l) (not (label_eq x l.id)) n)
    where
      by : (a b c d : Bool) → (a ≡ true → b ≡ true → c ≡ true → ⊥) → ((a && (b && d)) && c) ≡ false
      by true true true d n = absurd (n refl refl refl)
      by true true false true n = refl
      by true true false false n = refl
      by true false c d n = refl
      by false b c d n = refl

  -- two lists with the same first lot
  same_first : (l : Lot (Unit {0})) (ls ms : List (Lot (Unit {0}))) → chosen ls ≡ chosen ms → chosen (l ∷ ls) ≡ chosen (l ∷ ms)
  same_first l ls ms e = chosen_first l ls ∙ ap (λ (ks : List (Lot (Unit {0}))). cond (is_other_in y x l && is_near r ps l) (l ∷ ks) ks) e ∙ sym (chosen_first l ms)

-- a place that isn't the first
not_first : (n k : ℕ) (places : List ℕ) → k ≢ n → Listed k (n ∷ places) → Listed k places
not_first n k places d first = absurd (d refl)
not_first n k places d (later l) = l

-- all later places are above the first
above_first : (k : ℕ) (places : List ℕ) → IsStrictlySortedBy nat_cmp (k ∷ places) → AllByRecursion (λ j. k + 1 ≤ j) places
above_first k places h = all_map (λ (j : ℕ). nat_cmp k j ≡ Less) (λ (j : ℕ). k + 1 ≤ j) (λ j e. let f = below_less k j e in omega (arith, f)) places (sorted_head nat_cmp k places h)

-- no place stands in no list
none_listed : (n : ℕ) → Listed n [] → ⊥
none_listed n l = elim l [ ]

-- nor does one that all are above
not_below : (n : ℕ) (places : List ℕ) → AllByRecursion (λ j. n + 1 ≤ j) places → Listed n places → ⊥
not_below n places above l = absurd (let f = all_of (λ (j : ℕ). n + 1 ≤ j) places above n l in omega (arith, f))

module _ (r : Reach) (ps : List Part) (y x : Label) (lots : List (Lot (Unit {0}))) where
  module _ (n : ℕ) (l : Lot (Unit {0})) (within : n < length lots) (at : slice_get lots n ≡ Some l) (rest : (places : List ℕ) → AreAllNear r ps y lots (n + 1) places → chosen r ps y x (lots_at lots places) ≡ chosen r ps y x (drop (n + 1) lots)) where
    -- the first lot from the place on
    left_first : drop n lots ≡ l ∷ drop (n + 1) lots
    left_first = drop_item lots n l within (sym (get_or_from_slice_get lots n l l at))

    -- a lot whose place isn't left is passed over
    step_over : (places : List ℕ) → (Listed n places → ⊥) → AllByRecursion (λ j. n + 1 ≤ j) places → AreAllNear r ps y lots n places → chosen r ps y x (lots_at lots places) ≡ chosen r ps y x (drop n lots)
    step_over places none above h =
        rest places (record { rising = h.rising; behind = above; within = h.within; all = λ k m f on live own near. h.all k m (omega (arith, f)) on live own near })
        ∙ sym (ap (chosen r ps y x) left_first ∙ passed r ps y x l (drop (n + 1) lots) (λ live own near. none (h.all n l (omega arith) at live own near)))

    -- the lot of the first place
    step_on : (k : ℕ) (places : List ℕ) → k ≡ n → AreAllNear r ps y lots n (k ∷ places) → chosen r ps y x (lots_at lots (k ∷ places)) ≡ chosen r ps y x (drop n lots)
    step_on k places same h =
        ap (λ (o : Option (Lot (Unit {0}))). chosen r ps y x (option_to_list o ++ lots_at lots places)) (ap (slice_get lots) same ∙ at)
        ∙ same_first r ps y x l (lots_at lots places) (drop (n + 1) lots) (rest places (record {
          rising = sorted_tail nat_cmp k places h.rising;
          behind = subst (λ (i : ℕ). AllByRecursion (λ j. i + 1 ≤ j) places) same (above_first k places h.rising);
          within = h.within.1;
          all = λ i m f on live own near. not_first k i places (λ g. absurd (omega (arith, f, g, same))) (h.all i m (omega (arith, f)) on live own near);
        }))
        ∙ sym (ap (chosen r ps y x) left_first)

    -- a lot is passed over or taken
    step : (places : List ℕ) → AreAllNear r ps y lots n places → chosen r ps y x (lots_at lots places) ≡ chosen r ps y x (drop n lots)
    step [] h = step_over [] (none_listed n) tt h
    step (k ∷ places) h = ⊎_elim
        (λ same. step_on k places same h)
        (λ other.
        let f = h.behind.0 in
        let over : n + 1 ≤ k = omega (arith, f, other) in
        let above : AllByRecursion (λ j. n + 1 ≤ j) (k ∷ places) = (over, all_map (λ (j : ℕ). k + 1 ≤ j) (λ (j : ℕ). n + 1 ≤ j) (λ j g. omega (arith, g, over)) places (above_first k places h.rising)) in
        step_over (k ∷ places) (not_below n (k ∷ places) above) above h)
        (same_or_not k n)

  -- behind the last lot no place is left
  left_none : (n : ℕ) (places : List ℕ) → n ≡ length lots → AreAllNear r ps y lots n places → chosen r ps y x (lots_at lots places) ≡ chosen r ps y x (drop n lots)
  left_none n [] e h = sym (ap (chosen r ps y x) (drop_all n lots (omega (arith, e))))
  left_none n (k ∷ places) e h = absurd (let f = h.behind.0 in let g = h.within.0 in omega (arith, e, f, g))

  -- the lots at the places that are left are all that are chosen
  left_chosen : (d n : ℕ) → n + d ≡ length lots → (places : List ℕ) → AreAllNear r ps y lots n places → chosen r ps y x (lots_at lots places) ≡ chosen r ps y x (drop n lots)
  left_chosen zero n e places h = left_none n places (omega (arith, e)) h
  left_chosen (suc d) n e places h =
      let within : n < length lots = omega (arith, e) in
      let item = get_some lots n within in
      step n item.0 within item.1 (left_chosen d (n + 1) (omega (arith, e))) places h

  -- the lots at the places that are near are all that are chosen from a place on
  near_chosen : (from : ℕ) (places : List ℕ) → from ≤ length lots → AreAllNear r ps y lots from places → chosen r ps y x (lots_at lots places) ≡ chosen r ps y x (drop from lots)
  near_chosen from places f h = left_chosen (length lots - from) from (omega (arith, f)) places h

-- the others among lots at places stand at the places of the others
others_at : (y x : Label) (lots history : List (Lot (Unit {0}))) → history ≡ map bare_lot lots → (places : List ℕ) → AreWithin lots places → lots_at lots (filter (is_other_at y x history) places) ≡ others_in y x (lots_at lots places)
others_at y x lots history e [] w = refl
others_at y x lots history e (k ∷ places) w =
    let item = get_some lots k w.0 in
    let l = item.0 in
    let tested : is_other_at y x history k ≡ is_other_in y x l =
    ap (test_of y x) (ap (λ (ls : List (Lot (Unit {0}))). slice_get ls k) e ∙ slice_get-map bare_lot lots k ∙ ap (option_map bare_lot) item.1) in
    ap (λ (b : Bool). lots_at lots (cond b (k ∷ filter (is_other_at y x history) places) (filter (is_other_at y x history) places))) tested
    ∙ by l item.1 (is_other_in y x l) (others_at y x lots history e places w.1)
    ∙ sym (ap (λ (o : Option (Lot (Unit {0}))). others_in y x (option_to_list o ++ lots_at lots places)) item.1 ∙ others_first y x l (lots_at lots places))
  where
    test_of : Label → Label → Option (Lot (Unit {0})) → Bool
    test_of y x o = elim o [ None ↦ false | Some l ↦ is_other_in y x l ]

    by : (l : Lot (Unit {0})) → slice_get lots k ≡ Some l → (b : Bool) → lots_at lots (filter (is_other_at y x history) places) ≡ others_in y x (lots_at lots places) →
        lots_at lots (cond b (k ∷ filter (is_other_at y x history) places) (filter (is_other_at y x history) places)) ≡ cond b (l ∷ others_in y x (lots_at lots places)) (others_in y x (lots_at lots places))
    by l at true rest = ap (λ (o : Option (Lot (Unit {0}))). option_to_list o ++ lots_at lots (filter (is_other_at y x history) places)) at ∙ ap (λ (ls : List (Lot (Unit {0}))). l ∷ ls) rest
    by l at false rest = rest

-- so the others among the places that are met are those that are wanted, and such as may be answered besides
pub others_near : (r : Reach) (bs : List IntegerBox) (y x : Label) (from : ℕ) (history : List (Lot (Unit {0}))) (index : Label → Boxes) (places : List ℕ) → from ≤ length history → AreInOrder (places_met r from (index y) bs) places → AreNear r bs y x from history index (filter (is_other_at y x history) places)
others_near r bs y x from history index places f h lots ps kept own =
    let many : length history ≡ length lots = ap length kept.bare ∙ length-map lots bare_lot in
    let all = places_near r ps y lots (index y) from places (kept.indexed y) (subst (λ (cs : List IntegerBox). AreInOrder (places_met r from (index y) cs) places) own h) in
    ap (filter (is_near r ps)) (others_at y x lots history kept.bare places all.within) ∙ near_chosen r ps y x lots from places (omega (arith, f, many)) all

-- a number stands among those that a test keeps where it is one and passes
listed_filter : (test : ℕ → Bool) (xs : List ℕ) (k : ℕ) → is_listed k (filter test xs) ≡ (is_listed k xs && test k)
listed_filter test xs k =
    same_test (is_listed k (filter test xs)) (is_listed k xs && test k)
    (λ e. let stays = kept test xs k (number_listed k (filter test xs) e) in and_true (is_listed k xs) (test k) (listed_number k xs stays.listed) stays.passes)
    (λ e. listed_number k (filter test xs) (keeps test xs k (number_listed k xs (and_first (is_listed k xs) (test k) e)) (and_second (is_listed k xs) (test k) e)))

-- they are exactly these
pub others_are : {S : Type 0} (r : Reach) (bs : List IntegerBox) (y x : Label) (from : ℕ) (history : List (Lot S)) (index : Label → Boxes) (places : List ℕ) → AreInOrder (places_met r from (index y) bs) places → AreOthers r bs y x from history index (filter (is_other_at y x history) places)
others_are r bs y x from history index places h k = listed_filter (is_other_at y x history) places k ∙ ap (λ (b : Bool). b && is_other_at y x history k) (h.same k)

-- ---- how many places there are

-- rising places within so many are no more
rising_few : (n most : ℕ) (places : List ℕ) → IsStrictlySortedBy nat_cmp places → AllByRecursion (λ k. n ≤ k) places → AllByRecursion (λ k. k < most) places → n ≤ most → length places + n ≤ most
rising_few n most [] rising above below f = omega (arith, f)
rising_few n most (k ∷ places) rising above below f =
    let first = above.0 in
    let last = below.0 in
    let rest = rising_few (k + 1) most places (sorted_tail nat_cmp k places rising) (above_first k places rising) below.1 (omega (arith, last)) in
    omega (arith, first, rest)

-- all places are above none
above_none : (places : List ℕ) → AllByRecursion (λ k. 0 ≤ k) places
above_none [] = tt
above_none (k ∷ places) = (omega arith, above_none places)

-- places within, in rising order, so no more than there are lots
pub record ArePlaces {A : Type 0} (xs : List A) (places : List ℕ) : Type 0 where
  pub within : AreWithin xs places
  pub rising : IsStrictlySortedBy nat_cmp places
  pub few : length places ≤ length xs

-- those of the others that are met are such
pub others_places : {S : Type 0} (r : Reach) (bs : List IntegerBox) (y x : Label) (from : ℕ) (history : List (Lot S)) (boxes : Boxes) (places : List ℕ) → NoneBehind boxes (length history) → AreInOrder (places_met r from boxes bs) places → ArePlaces history (filter (is_other_at y x history) places)
others_places r bs y x from history boxes places none h =
    let test = is_other_at y x history in
    let within = all_filter (λ (k : ℕ). k < length history) test places (met_within r from boxes bs places history h none) in
    let rising = IsStrictlySortedBy-filter nat_cmp test places h.rising in
    let few = rising_few 0 (length history) (filter test places) rising (above_none (filter test places)) within (omega arith) in
    record { within = within; rising = rising; few = omega (arith, few) }

-- ---- places in order

-- what is left once of numbers stands there
listed_once : (k x : ℕ) (xs : List ℕ) → is_listed k (dedup_from eqb x xs) ≡ is_listed k (x ∷ xs)
listed_once k x [] = refl
listed_once k x (z ∷ xs) = by (eqb z x) refl (listed_once k x xs) (listed_once k z xs)
  where
    twice : (a b : Bool) → (a || b) ≡ (a || (a || b))
    twice true b = refl
    twice false b = refl

    by : (b : Bool) → eqb z x ≡ b → is_listed k (dedup_from eqb x xs) ≡ is_listed k (x ∷ xs) → is_listed k (dedup_from eqb z xs) ≡ is_listed k (z ∷ xs) →
        is_listed k (cond b (dedup_from eqb x xs) (x ∷ dedup_from eqb z xs)) ≡ is_listed k (x ∷ z ∷ xs)
    by true e here next = let same = (Decides-eqb z x).0 e in here ∙ twice (x == k) (is_listed k xs) ∙ ap (λ (i : ℕ). (x == k) || ((i == k) || is_listed k xs)) (sym same)
    by false e here next = ap (λ (b : Bool). (x == k) || b) next

-- numbers that are sorted, each left once, are in order
pub in_order : (all sorted places : List ℕ) → IsPermutation all sorted → IsSorted nat_cmp sorted → IsFiltered (DiffersFromLast eqb) [] sorted places → AreInOrder all places
in_order all sorted places moved rises left =
    let is = dedup_is eqb sorted places left in
    record {
      rising = subst (IsStrictlySortedBy nat_cmp) (sym is) (sorted_from_strictly_increasing (dedup eqb sorted) (IsStrictlyIncreasing-dedup sorted rises));
      same = λ k. ap (is_listed k) is ∙ once k sorted ∙ sym (list_any-IsPermutation (λ (i : ℕ). i == k) all sorted moved);
    }
  where
    once : (k : ℕ) (xs : List ℕ) → is_listed k (dedup eqb xs) ≡ is_listed k xs
    once k [] = refl
    once k (x ∷ xs) = listed_once k x xs
