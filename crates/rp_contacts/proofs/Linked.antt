-- The pairs of a layer's lots that have parts that may touch, by their numbers and by their places: the walk over each two lots finds the links of those that meet.
use Rattle.std.proofs.Common.{◌≡◌, ℕ, zero, suc, ◌+◌, ◌<◌, ◌≤◌, Bool, true, false, not, cond, ◌==◌, List, [], ◌∷◌, ◌++◌, map, length, drop, get_or, ⊎_elim, refl, sym, ap, ap₂, ◌∙◌, subst, arith, append_assoc, append-nil}
use Rattle.std.specs.List.{AllByRecursion}
use Rattle.std.proofs.lemmas.Bool.{cases_lt, eqb-true}
use Rattle.std.proofs.lemmas.List.{length-map, map-append}
use Rattle.rp_algebra.proofs.Listed.{all_append}
use Rattle.rp_algebra.proofs.Lists.{get_some}
use Rattle.rp_geometry.specs.sets.Shape.{Part}
use Rattle.rp_semantics.specs.Walk.{Outcome, done, stopped, Walk, Tester, pass, after_first, ◌>>=◌}
use Rattle.rp_semantics.specs.Form.{touch_nearby, touching_pair}
use Rattle.rp_model.specs.states.State.{Lot, ids_of}
use Rattle.rp_model.specs.commands.Parts.{count_pairs, lot_parts, numbered_lists}
use Rattle.rp_model.specs.commands.Access.{links_with_list, links_among_lists}
use Rattle.rp_proximity.specs.declared.reach.Reach.TheVariants.{Touch}
use Rattle.rp_proximity.specs.Near.{lots_at, AreWithin}
use Rattle.rp_proximity.proofs.Skipped.{none_of_pairs}
use Rattle.rp_contacts.specs.declared.pair.Pair.{Pair}
use Rattle.rp_contacts.specs.Meets.{pair_of, meet_each, parts_at, id_at}
use Rattle.rp_contacts.specs.Numbers.{lists_at, is_touching, places_with, places_among, IsPairOf, AreBelow, placed, links_met}
use Rattle.rp_contacts.proofs.Items.{parts_there, id_there, first_there}
use Rattle.rp_contacts.proofs.Meeting.{test_of, answers, from_none}
use Rattle.rp_history.specs.Places.{AreRising}

-- ---- the lots at places

-- their lists of parts
pub lists_of_lots : (lots : List (Lot (Unit {0}))) (ks : List ℕ) → AreWithin lots ks → lot_parts (lots_at lots ks) ≡ lists_at lots ks
lists_of_lots lots [] h = refl
lists_of_lots lots (k ∷ ks) h =
    let item = get_some lots k h.0 in
    ap lot_parts (first_there lots k item.0 item.1 ks) ∙ ap₂ ◌∷◌ (sym (parts_there lots k item.0 item.1)) (lists_of_lots lots ks h.1)

-- their ids
pub ids_of_places : (lots : List (Lot (Unit {0}))) (ks : List ℕ) → AreWithin lots ks → ids_of (lots_at lots ks) ≡ map (λ k. id_at lots k) ks
ids_of_places lots [] h = refl
ids_of_places lots (k ∷ ks) h =
    let item = get_some lots k h.0 in
    ap ids_of (first_there lots k item.0 item.1 ks) ∙ ap₂ ◌∷◌ (sym (id_there lots k item.0 item.1)) (ids_of_places lots ks h.1)

-- there are as many
pub ids_counted : (lots : List (Lot (Unit {0}))) (ks : List ℕ) → AreWithin lots ks → length (ids_of (lots_at lots ks)) ≡ length ks
ids_counted lots ks h = ap length (ids_of_places lots ks h) ∙ length-map ks (λ k. id_at lots k)

-- ---- the pairs by their numbers

-- the pairs of the list with the number m and further ones, numbered from n, that have parts that may touch
abbrev pub touching_with : List Part → ℕ → ℕ → List (List Part) → List Pair
touching_with ps m n [] = []
touching_with ps m n (qs ∷ lists) = cond (is_touching ps qs) (pair_of m n ∷ touching_with ps m (n + 1) lists) (touching_with ps m (n + 1) lists)

-- the pairs of each two lists, numbered from m, that have parts that may touch
abbrev pub touching_among : ℕ → List (List Part) → List Pair
touching_among m [] = []
touching_among m (ps ∷ lists) = touching_with ps m (m + 1) lists ++ touching_among (m + 1) lists

-- what is left of a list behind its first item
left_behind : (xs : List ℕ) (i x : ℕ) (ys : List ℕ) → drop i xs ≡ x ∷ ys → (get_or xs i 0 ≡ x) × (drop (i + 1) xs ≡ ys)
left_behind [] zero x ys g = absurd (cc)
left_behind [] (suc i) x ys g = absurd (cc)
left_behind (z ∷ xs) zero x ys g = let head : z ≡ x = cc in let tail : xs ≡ ys = cc in (head, tail)
left_behind (z ∷ xs) (suc i) x ys g =
    let r = left_behind xs i x ys g in
    let e : suc i + 1 ≡ suc (i + 1) = omega arith in
    (r.0, ap (λ (n : ℕ). drop n (z ∷ xs)) e ∙ r.1)

-- ---- the walk

-- parts that may not touch
no_pair : (ps qs : List Part) → is_touching ps qs ≡ false → count_pairs touching_pair ps qs ≡ 0
no_pair ps qs e = by (count_pairs touching_pair ps qs == 0) refl e
  where
    by : (b : Bool) → (count_pairs touching_pair ps qs == 0) ≡ b → not b ≡ false → count_pairs touching_pair ps qs ≡ 0
    by true f g = eqb-true (count_pairs touching_pair ps qs) 0 f
    by false f g = absurd (cc)

module _ {W : Type 0} (tester : Tester W) (lots : List (Lot (Unit {0}))) (places : List ℕ) where
  -- the test of a pair of numbers
  abbrev tested : Pair → Walk W Bool
  tested n = test_of tester Touch (lot_parts lots) (placed places n)

  -- the links found so far, and that of a pair of numbers if it meets
  abbrev with_link : List (ℕ × ℕ) → Pair → Bool → List (ℕ × ℕ)
  with_link found n b = elim b as (λ _. List (ℕ × ℕ)) [ true ↦ found ++ (n.first, n.second) ∷ [] | false ↦ found ]

  -- the links found so far, and those of further pairs of numbers
  abbrev linked : List (ℕ × ℕ) → List Pair → Walk W (List (ℕ × ℕ))
  linked found [] = pass found
  linked found (n ∷ ns) = tested n >>= (λ b. linked (with_link found n b) ns)

  -- two lists of pairs, one behind the other
  linked_append : (ns ms : List Pair) (found : List (ℕ × ℕ)) (w : W) → linked found (ns ++ ms) w ≡ after_first (λ more. linked more ms) (linked found ns w)
  linked_append [] ms found w = refl
  linked_append (n ∷ ns) ms found w = by (tested n w) (linked_append ns ms)
    where
      by : (o : Outcome W Bool) → ((found : List (ℕ × ℕ)) (v : W) → linked found (ns ++ ms) v ≡ after_first (λ more. linked more ms) (linked found ns v))
          → after_first (λ b. linked (with_link found n b) (ns ++ ms)) o ≡ after_first (λ more. linked more ms) (after_first (λ b. linked (with_link found n b) ns) o)
      by (done b v) later = later (with_link found n b) v
      by (stopped s v) later = refl

  -- the links are those of the pairs that meet
  linked_met : (ns : List Pair) (found : List (ℕ × ℕ)) (w : W) → linked found ns w ≡ after_first (λ met. pass (found ++ links_met ns met)) (answers tester Touch (lot_parts lots) (map (placed places) ns) w)
  linked_met [] found w = ap (λ (ls : List (ℕ × ℕ)). done ls w) (sym (append-nil found))
  linked_met (n ∷ ns) found w = by (tested n w) (linked_met ns)
    where
      rest : Walk W (List Bool)
      rest = answers tester Touch (lot_parts lots) (map (placed places) ns)

      one : (b : Bool) (o : Outcome W (List Bool)) → after_first (λ met. pass (with_link found n b ++ links_met ns met)) o ≡ after_first (λ met. pass (found ++ links_met (n ∷ ns) met)) (after_first (λ more. pass (b ∷ more)) o)
      one true (done more v) = ap (λ (ls : List (ℕ × ℕ)). done ls v) (append_assoc found ((n.first, n.second) ∷ []) (links_met ns more))
      one false (done more v) = refl
      one b (stopped s v) = refl

      by : (o : Outcome W Bool) → ((found : List (ℕ × ℕ)) (v : W) → linked found ns v ≡ after_first (λ met. pass (found ++ links_met ns met)) (rest v))
          → after_first (λ b. linked (with_link found n b) ns) o ≡ after_first (λ met. pass (found ++ links_met (n ∷ ns) met)) (after_first (λ b. rest >>= (λ more. pass (b ∷ more))) o)
      by (done b v) later = later (with_link found n b) v ∙ one b (rest v)
      by (stopped s v) later = refl

  -- the walk over one list and further ones
  with_linked : (j m n : ℕ) (ks : List ℕ) → get_or places m 0 ≡ j → drop n places ≡ ks → (found : List (ℕ × ℕ)) (w : W) →
      links_with_list tester found (m, parts_at lots j) (numbered_lists n (lists_at lots ks)) w ≡ linked found (touching_with (parts_at lots j) m n (lists_at lots ks)) w
  with_linked j m n [] own left found w = refl
  with_linked j m n (k ∷ ks) own left found w = by (is_touching (parts_at lots j) (parts_at lots k)) refl (with_linked j m (n + 1) ks own (left_behind places n k ks left).1)
    where
      ps : List Part
      ps = parts_at lots j

      rest : List Pair
      rest = touching_with ps m (n + 1) (lists_at lots ks)

      next : List (ℕ × ℕ) → Walk W (List (ℕ × ℕ))
      next more = links_with_list tester more (m, ps) (numbered_lists (n + 1) (lists_at lots ks))

      on : Bool → List (ℕ × ℕ)
      on b = with_link found (pair_of m n) b

      Later : Type 0
      Later = (found : List (ℕ × ℕ)) (w : W) → next found w ≡ linked found rest w

      walked : (o : Outcome W Bool) → touch_nearby tester ps (parts_at lots k) w ≡ o → links_with_list tester found (m, ps) (numbered_lists n (lists_at lots (k ∷ ks))) w ≡ after_first next (after_first (λ b v. done (on b) v) o)
      walked o e = ap (λ (p : Outcome W Bool). after_first next (after_first (λ b v. done (on b) v) p)) e

      same : touch_nearby tester ps (parts_at lots k) w ≡ tested (pair_of m n) w
      same = λ i. touch_nearby tester (parts_at lots (own' i)) (parts_at lots (other i)) w
        where
          own' : j ≡ get_or places m 0
          own' = sym own

          other : k ≡ get_or places n 0
          other = sym (left_behind places n k ks left).0

      step : Later → (o : Outcome W Bool) → after_first next (after_first (λ b v. done (on b) v) o) ≡ after_first (λ b. linked (on b) rest) o
      step later (done b v) = later (on b) v
      step later (stopped s v) = refl

      by : (b : Bool) → is_touching ps (parts_at lots k) ≡ b → Later → links_with_list tester found (m, ps) (numbered_lists n (lists_at lots (k ∷ ks))) w ≡ linked found (cond b (pair_of m n ∷ rest) rest) w
      by true e later = walked (tested (pair_of m n) w) same ∙ step later (tested (pair_of m n) w)
      by false e later = walked (done false w) (none_of_pairs touching_pair tester.weak ps (parts_at lots k) w (no_pair ps (parts_at lots k) e)) ∙ later found w

  -- the walk over each two lists
  among_linked : (m : ℕ) (ks : List ℕ) → drop m places ≡ ks → (found : List (ℕ × ℕ)) (w : W) → links_among_lists tester found (numbered_lists m (lists_at lots ks)) w ≡ linked found (touching_among m (lists_at lots ks)) w
  among_linked m [] left found w = refl
  among_linked m (j ∷ ks) left found w =
      let r = left_behind places m j ks left in
      let own = touching_with (parts_at lots j) m (m + 1) (lists_at lots ks) in
      let others = touching_among (m + 1) (lists_at lots ks) in
      ap (after_first (λ more. links_among_lists tester more (numbered_lists (m + 1) (lists_at lots ks)))) (with_linked j m (m + 1) ks r.0 r.1 found w)
      ∙ by (linked found own w) (among_linked (m + 1) ks r.1)
      ∙ sym (linked_append own others found w)
    where
      by : (o : Outcome W (List (ℕ × ℕ))) → ((found : List (ℕ × ℕ)) (v : W) → links_among_lists tester found (numbered_lists (m + 1) (lists_at lots ks)) v ≡ linked found (touching_among (m + 1) (lists_at lots ks)) v)
          → after_first (λ more. links_among_lists tester more (numbered_lists (m + 1) (lists_at lots ks))) o ≡ after_first (λ more. linked more (touching_among (m + 1) (lists_at lots ks))) o
      by (done more v) later = later more v
      by (stopped s v) later = refl

-- ---- numbers and places

-- the pairs of numbers with one, as pairs of places
with_placed : (lots : List (Lot (Unit {0}))) (places : List ℕ) (j m n : ℕ) (ks : List ℕ) → get_or places m 0 ≡ j → drop n places ≡ ks → map (placed places) (touching_with (parts_at lots j) m n (lists_at lots ks)) ≡ places_with lots j ks
with_placed lots places j m n [] e f = refl
with_placed lots places j m n (k ∷ ks) e f = by (is_touching (parts_at lots j) (parts_at lots k)) (with_placed lots places j m (n + 1) ks e (left_behind places n k ks f).1)
  where
    by : (b : Bool) → map (placed places) (touching_with (parts_at lots j) m (n + 1) (lists_at lots ks)) ≡ places_with lots j ks
        → map (placed places) (cond b (pair_of m n ∷ touching_with (parts_at lots j) m (n + 1) (lists_at lots ks)) (touching_with (parts_at lots j) m (n + 1) (lists_at lots ks))) ≡ cond b (pair_of j k ∷ places_with lots j ks) (places_with lots j ks)
    by true g = ap₂ ◌∷◌ (ap₂ pair_of e (left_behind places n k ks f).0) g
    by false g = g

-- the pairs of each two numbers, as pairs of places
among_placed : (lots : List (Lot (Unit {0}))) (places : List ℕ) (m : ℕ) (ks : List ℕ) → drop m places ≡ ks → map (placed places) (touching_among m (lists_at lots ks)) ≡ places_among lots ks
among_placed lots places m [] f = refl
among_placed lots places m (j ∷ ks) f =
    let r = left_behind places m j ks f in
    map-append (placed places) (touching_with (parts_at lots j) m (m + 1) (lists_at lots ks)) (touching_among (m + 1) (lists_at lots ks))
    ∙ ap₂ ◌++◌ (with_placed lots places j m (m + 1) ks r.0 r.1) (among_placed lots places (m + 1) ks r.1)

-- all pairs of numbers, as pairs of places
pub all_placed : (lots : List (Lot (Unit {0}))) (places : List ℕ) → map (placed places) (touching_among 0 (lists_at lots places)) ≡ places_among lots places
all_placed lots places = among_placed lots places 0 places refl

-- ---- bounds

-- the pairs with one number
with_below : (c m : ℕ) → m < c → (ps : List Part) (n : ℕ) (lists : List (List Part)) → n + length lists ≤ c → AllByRecursion (AreBelow c) (touching_with ps m n lists)
with_below c m h ps n [] e = tt
with_below c m h ps n (qs ∷ lists) e = by (is_touching ps qs) (with_below c m h ps (n + 1) lists (omega (arith, e)))
  where
    by : (b : Bool) → AllByRecursion (AreBelow c) (touching_with ps m (n + 1) lists) → AllByRecursion (AreBelow c) (cond b (pair_of m n ∷ touching_with ps m (n + 1) lists) (touching_with ps m (n + 1) lists))
    by true k = ((h, omega (arith, e)), k)
    by false k = k

-- all pairs
pub among_below : (c m : ℕ) (lists : List (List Part)) → m + length lists ≤ c → AllByRecursion (AreBelow c) (touching_among m lists)
among_below c m [] e = tt
among_below c m (ps ∷ lists) e =
    all_append (AreBelow c) (touching_with ps m (m + 1) lists) (touching_among (m + 1) lists) (with_below c m (omega (arith, e)) ps (m + 1) lists (omega (arith, e))) (among_below c (m + 1) lists (omega (arith, e)))

-- the numbers of places are below as many
pub pairs_below : (lots : List (Lot (Unit {0}))) (places : List ℕ) → AllByRecursion (AreBelow (length places)) (touching_among 0 (lists_at lots places))
pairs_below lots places = among_below (length places) 0 (lists_at lots places) (let e = length-map places (λ k. parts_at lots k) in omega (arith, e))

-- they are pairs of these places
pub placed_there : (ks : List ℕ) (ps : List Pair) → AllByRecursion (AreBelow (length ks)) ps → AllByRecursion (IsPairOf ks) (map (placed ks) ps)
placed_there ks [] h = tt
placed_there ks (p ∷ ps) h = ((record { number = p.first; below = h.0.0; is = refl }, record { number = p.second; below = h.0.1; is = refl }), placed_there ks ps h.1)

-- ---- one number for each place

-- a place has one number
one_number : (ks : List ℕ) → AreRising ks → (i j : ℕ) → i < length ks → j < length ks → get_or ks i 0 ≡ get_or ks j 0 → i ≡ j
one_number ks r i j g h e = ⊎_elim (λ f. absurd (let up = r i j f h in omega (arith, up, e))) (λ f. ⊎_elim (λ n. absurd (let up = r j i n g in omega (arith, up, e))) (λ n. omega (arith, f, n)) (cases_lt j i)) (cases_lt i j)

-- pairs of numbers are known by the pairs of their places
pub numbers_once : (ks : List ℕ) → AreRising ks → (ps qs : List Pair) → AllByRecursion (AreBelow (length ks)) ps → AllByRecursion (AreBelow (length ks)) qs → map (placed ks) ps ≡ map (placed ks) qs → ps ≡ qs
numbers_once ks r [] [] g h e = refl
numbers_once ks r [] (q ∷ qs) g h e = absurd (cc)
numbers_once ks r (p ∷ ps) [] g h e = absurd (cc)
numbers_once ks r (p ∷ ps) (q ∷ qs) g h e =
    let head : placed ks p ≡ placed ks q = cc in
    let tail : map (placed ks) ps ≡ map (placed ks) qs = cc in
    ap₂ ◌∷◌ (ap₂ pair_of (one_number ks r p.first q.first g.0.0 h.0.0 (ap (λ (x : Pair). x.first) head)) (one_number ks r p.second q.second g.0.1 h.0.1 (ap (λ (x : Pair). x.second) head))) (numbers_once ks r ps qs g.1 h.1 tail)

-- ---- the pairs of a layer

-- they are pairs of these places
pub among_there : (lots : List (Lot (Unit {0}))) (places : List ℕ) → AllByRecursion (IsPairOf places) (places_among lots places)
among_there lots places = subst (AllByRecursion (IsPairOf places)) (all_placed lots places) (placed_there places (touching_among 0 (lists_at lots places)) (pairs_below lots places))

-- their numbers are those of the walk
pub numbers_are : (lots : List (Lot (Unit {0}))) (places : List ℕ) → AreRising places → (numbers : List Pair) → AllByRecursion (AreBelow (length places)) numbers → map (placed places) numbers ≡ places_among lots places → numbers ≡ touching_among 0 (lists_at lots places)
numbers_are lots places up numbers h e = numbers_once places up numbers (touching_among 0 (lists_at lots places)) h (pairs_below lots places) (e ∙ sym (all_placed lots places))

-- the walk over each two lots at some places finds the links of those of their pairs that meet
pub links_found : {W : Type 0} (tester : Tester W) (lots : List (Lot (Unit {0}))) (places : List ℕ) (numbers pairs : List Pair) → numbers ≡ touching_among 0 (lists_at lots places) → map (placed places) numbers ≡ pairs → (w : W) →
    links_among_lists tester [] (numbered_lists 0 (lists_at lots places)) w ≡ after_first (λ met. pass (links_met numbers met)) (meet_each tester Touch (lot_parts lots) [] pairs w)
links_found tester lots places numbers pairs e f w =
    among_linked tester lots places 0 places refl [] w
    ∙ sym (ap (λ (ns : List Pair). linked tester lots places [] ns w) e)
    ∙ linked_met tester lots places numbers [] w
    ∙ ap (λ (ps : List Pair). after_first (λ met. pass (links_met numbers met)) (answers tester Touch (lot_parts lots) ps w)) f
    ∙ sym (ap (after_first (λ met. pass (links_met numbers met))) (from_none tester Touch (lot_parts lots) pairs w))
