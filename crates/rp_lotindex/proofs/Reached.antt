-- The places whose boxes an index answers are those of lots of which a box meets one of some boxes, so of all that have a part which may meet one of a list.
use Rattle.std.proofs.Common.{◌≡◌, ℕ, ◌+◌, ◌/◌, ◌<◌, ◌≤◌, ◌==◌, Bool, true, false, not, cond, List, [], ◌∷◌, ◌++◌, ◌⊎◌, ⊎_elim, map, filter, length, drop, Option, Some, None, slice_get, refl, sym, ap, ap₂, ◌∙◌, subst, append_assoc, arith}
use Rattle.std.specs.Prelude.{option_map, sum_by, count_by, nat_le}
use Rattle.std.specs.List.{AllByRecursion, list_any}
use Rattle.std.specs.List.Sorted.{IsStrictlySortedBy}
use Rattle.std.specs.Ordering.{nat_cmp}
use Rattle.std.specs.FinMap.{get, empty}
use Rattle.std.proofs.lemmas.Bool.{cases_lt, or_cases, or_left, or_right, eq-eqb, le-leb, leb-true}
use Rattle.std.proofs.lemmas.Bool.Decides.{nat_tests, Decides-eqb}
use Rattle.std.proofs.lemmas.List.Sums.{sum_by-cons}
use Rattle.std.proofs.lemmas.Option.{get_or_from_slice_get, slice_get_within}
use Rattle.rp_algebra.proofs.Filter.{kept, keeps}
use Rattle.rp_algebra.proofs.Lists.{drop_item}
use Rattle.rp_algebra.proofs.Listed.{Listed, first, later, of_all, listed_left, listed_right, listed_cases}
use Rattle.rp_geometry.specs.Geometry.{IntegerBox}
use Rattle.rp_geometry.specs.sets.Shape.{Part}
use Rattle.rp_space.specs.declared.bounds.IntBox.{IntBox}
use Rattle.rp_space.specs.Boxes.{integer_box}
use Rattle.rp_language.specs.Name.{Label, label_eq}
use Rattle.rp_model.specs.states.State.{Lot, is_live}
use Rattle.rp_model.specs.commands.Parts.{count_pairs}
use Rattle.rp_boxindex.specs.Boxes.{Boxes}
use Rattle.rp_boxindex.specs.Laws.{is_there_and_meets}
use Rattle.rp_boxindex.specs.Meeting.{do_meet, meeting_ids}
use Rattle.rp_boxindex.proofs.Exact.{meeting_ids_are_exact_spec}
use Rattle.rp_proximity.specs.declared.reach.Reach.{Reach}
use Rattle.rp_proximity.specs.declared.reach.Reach.TheVariants.{Overlap, Touch}
use Rattle.rp_lotindex.specs.Indexed.{boxes_of_parts, box_at, NoneBehind, IsIndexAt}
use Rattle.rp_lotindex.specs.Turns.{axis_of}
use Rattle.rp_lotindex.specs.Cubes.{live_number, moved, moved_in, in_turns}
use Rattle.rp_proximity.specs.Near.{may_meet, is_near, AreWithin}
use Rattle.rp_lotindex.specs.Near.{is_closed, places_by, places_each, places_met, is_listed}
use Rattle.rp_boxindex.proofs.Wider.{wider_meet}
use Rattle.rp_lotindex.proofs.Hulls.{listed_image, part_boxed}
use Rattle.rp_lotindex.proofs.Cubes.{moved_in_meet, turn_listed}
use Rattle.rp_lotindex.proofs.Boxed.{none_meet, live_boxes, lot_box, none_behind_lots}

-- ---- what stands in a list

-- a number for which the test of some number passes
pub number_listed : (n : ℕ) (xs : List ℕ) → list_any (λ i. i == n) xs ≡ true → Listed n xs
number_listed n [] e = absurd (cc)
number_listed n (x ∷ xs) e = ⊎_elim (λ t. subst (λ (z : ℕ). Listed n (z ∷ xs)) (sym ((Decides-eqb x n).0 t)) first) (λ t. later (number_listed n xs t)) (or_cases (x == n) (list_any (λ i. i == n) xs) e)

-- and back
pub listed_number : (n : ℕ) (xs : List ℕ) → Listed n xs → list_any (λ i. i == n) xs ≡ true
listed_number n [] l = elim l [ ]
listed_number n (x ∷ xs) first = or_left (n == n) (list_any (λ i. i == n) xs) (eq-eqb n n refl)
listed_number n (x ∷ xs) (later l) = or_right (x == n) (list_any (λ i. i == n) xs) (listed_number n xs l)

-- an item of images is that of an item
image_listed : {A B : Type 0} (f : A → B) (y : B) (xs : List A) → Listed y (map f xs) → (x : A) × Listed x xs × (f x ≡ y)
image_listed f y [] l = elim l [ ]
image_listed f y (x ∷ xs) first = (x, first, refl)
image_listed f y (x ∷ xs) (later l) = let o = image_listed f y xs l in (o.0, later o.1, o.2)

-- ---- boxes that meet

-- the id of a box that meets is answered
pub box_reached : (closed : Bool) (b c : IntegerBox) (boxes : Boxes) (k : ℕ) → box_at boxes k ≡ Some c → do_meet closed b c ≡ true → Listed k (meeting_ids closed b boxes)
box_reached closed b c boxes k at m = number_listed k (meeting_ids closed b boxes) (meeting_ids_are_exact_spec closed b boxes k ∙ by (get boxes k) at)
  where
    by : (o : Option IntBox) → option_map integer_box o ≡ Some c → is_there_and_meets closed b o ≡ true
    by None e = absurd (cc)
    by (Some d) e = let same : integer_box d ≡ c = cc in subst (λ (a : IntegerBox). do_meet closed b a ≡ true) (sym same) m

-- an id that is answered has a box
pub reached_box : (closed : Bool) (b : IntegerBox) (boxes : Boxes) (k : ℕ) → Listed k (meeting_ids closed b boxes) → box_at boxes k ≡ None → ⊥
reached_box closed b boxes k l none = by (get boxes k) none (sym (meeting_ids_are_exact_spec closed b boxes k) ∙ listed_number k (meeting_ids closed b boxes) l)
  where
    by : (o : Option IntBox) → option_map integer_box o ≡ None → is_there_and_meets closed b o ≡ true → ⊥
    by None e f = absurd (cc)
    by (Some d) e f = absurd (cc)

-- ---- parts that meet

-- where a sum is above 0, it is so for an item
some_item : {A : Type 0} (f : A → ℕ) (xs : List A) → 0 < sum_by f xs → (x : A) × Listed x xs × (0 < f x)
some_item f [] h = absurd (omega (arith, h))
some_item f (x ∷ xs) h = ⊎_elim
    (λ (g : 0 < f x). (x, first, g))
    (λ (g : f x ≤ 0). let all = sum_by-cons f x xs in let o = some_item f xs (omega (arith, h, g, all)) in (o.0, later o.1, o.2))
    (cases_lt 0 (f x))

-- a test that counts passes
counted : (b : Bool) → 0 < cond b 1 0 → b ≡ true
counted true h = refl
counted false h = absurd (omega (arith, h))

-- two parts that may meet
record MeetingParts (r : Reach) (ps qs : List Part) : Type 0 where
  part : Part
  listed : Listed part ps
  other : Part
  other_listed : Listed other qs
  meet : may_meet r part other ≡ true

-- lots that are near have such parts
parts_meet : (r : Reach) (ps qs : List Part) → 0 < count_pairs (may_meet r) ps qs → MeetingParts r ps qs
parts_meet r ps qs h =
    let p = some_item (λ (a : Part). count_by (λ (c : Part). may_meet r a c) qs) ps h in
    let q = some_item (λ (c : Part). cond (may_meet r p.0 c) 1 0) qs p.2 in
    record { part = p.0; listed = p.1; other = q.0; other_listed = q.1; meet = counted (may_meet r p.0 q.0) q.2 }

-- what may meet does so as the index is asked
as_asked : (r : Reach) (p q : Part) → may_meet r p q ≡ do_meet (is_closed r) p.bounds q.bounds
as_asked Overlap p q = refl
as_asked Touch p q = refl

-- a lot that is near has a pair
has_pair : (n : ℕ) → not (n == 0) ≡ true → 0 < n
has_pair n e = grind (arith, nat_tests)

-- two boxes that meet
record MeetingBoxes (r : Reach) (bs cs : List IntegerBox) : Type 0 where
  box : IntegerBox
  listed : Listed box bs
  other : IntegerBox
  other_listed : Listed other cs
  meet : do_meet (is_closed r) box other ≡ true

-- a box of a lot that is near meets one of the list
boxes_meet : (r : Reach) (ps : List Part) (l : Lot (Unit {0})) → is_near r ps l ≡ true → MeetingBoxes r (boxes_of_parts ps) (boxes_of_parts l.parts)
boxes_meet r ps l near =
    let pair = parts_meet r ps l.parts (has_pair (count_pairs (may_meet r) ps l.parts) near) in
    let b = part_boxed pair.part ps pair.listed in
    let c = part_boxed pair.other l.parts pair.other_listed in
    record {
      box = b.0;
      listed = b.1;
      other = c.0;
      other_listed = c.1;
      meet = wider_meet (is_closed r) pair.part.bounds pair.other.bounds b.0 c.0 b.2 c.2 (sym (as_asked r pair.part pair.other) ∙ pair.meet);
    }

-- ---- places

module _ (r : Reach) (from : ℕ) (boxes : Boxes) where
  -- a place at which a box meets one
  record IsMet (k : ℕ) : Type 0 where
    box : IntegerBox
    id : ℕ
    listed : Listed id (meeting_ids (is_closed r) box boxes)
    own : id / 16 ≡ k
    behind : from ≤ k

  -- one of a box
  met_by : (b : IntegerBox) (k : ℕ) → Listed k (places_by r from boxes b) → IsMet k
  met_by b k l =
      let stays = kept (λ c. nat_le from c) (map (λ id. id / 16) (meeting_ids (is_closed r) b boxes)) k l in
      let one = image_listed (λ (id : ℕ). id / 16) k (meeting_ids (is_closed r) b boxes) stays.listed in
      record { box = b; id = one.0; listed = one.1; own = one.2; behind = leb-true from k stays.passes }

  -- one of some boxes
  met_each : (bs : List IntegerBox) (k : ℕ) → Listed k (places_each r from boxes bs) → IsMet k
  met_each [] k l = elim l [ ]
  met_each (b ∷ bs) k l = ⊎_elim (met_by b k) (met_each bs k) (listed_cases k (places_by r from boxes b) (places_each r from boxes bs) l)

  -- one of some boxes in each turn
  met_at : (bs : List IntegerBox) (k : ℕ) → Listed k (places_met r from boxes bs) → IsMet k
  met_at [] k l = elim l [ ]
  met_at (b ∷ bs) k l = ⊎_elim (met_each (in_turns live_number b) k) (met_at bs k) (listed_cases k (places_each r from boxes (in_turns live_number b)) (places_met r from boxes bs) l)

  -- where an id of a place is answered for a box, the place is met
  place_each : (bs : List IntegerBox) (b : IntegerBox) → Listed b bs → (k id : ℕ) → Listed id (meeting_ids (is_closed r) b boxes) → id / 16 ≡ k → from ≤ k → Listed k (places_each r from boxes bs)
  place_each [] b l k id m own f = elim l [ ]
  place_each (d ∷ bs) b first k id m own f =
      listed_left k (places_by r from boxes b) (places_each r from boxes bs)
      (keeps (λ c. nat_le from c) (map (λ i. i / 16) (meeting_ids (is_closed r) b boxes)) k
      (subst (λ (n : ℕ). Listed n (map (λ i. i / 16) (meeting_ids (is_closed r) b boxes))) own (listed_image (λ (i : ℕ). i / 16) id (meeting_ids (is_closed r) b boxes) m)) (le-leb from k f))
  place_each (c ∷ bs) b (later l) k id m own f = listed_right k (places_by r from boxes c) (places_each r from boxes bs) (place_each bs b l k id m own f)

  -- so it is for a box in one of its turns
  place_met : (bs : List IntegerBox) (b : IntegerBox) → Listed b bs → (c : IntegerBox) → Listed c (in_turns live_number b) → (k id : ℕ) → Listed id (meeting_ids (is_closed r) c boxes) → id / 16 ≡ k → from ≤ k → Listed k (places_met r from boxes bs)
  place_met [] b l c t k id m own f = elim l [ ]
  place_met (d ∷ bs) b first c t k id m own f = listed_left k (places_each r from boxes (in_turns live_number b)) (places_met r from boxes bs) (place_each (in_turns live_number b) c t k id m own f)
  place_met (d ∷ bs) b (later l) c t k id m own f = listed_right k (places_each r from boxes (in_turns live_number d)) (places_met r from boxes bs) (place_met bs b l c t k id m own f)

-- no box of an empty index meets some boxes
none_by : (r : Reach) (from : ℕ) (b : IntegerBox) → places_by r from empty b ≡ []
none_by r from b = ap (λ (ids : List ℕ). filter (λ k. nat_le from k) (map (λ id. id / 16) ids)) (none_meet (is_closed r) b)

none_each : (r : Reach) (from : ℕ) (bs : List IntegerBox) → places_each r from empty bs ≡ []
none_each r from [] = refl
none_each r from (b ∷ bs) = ap₂ (λ (ks js : List ℕ). ks ++ js) (none_by r from b) (none_each r from bs)

-- or does so in a turn
pub met_none : (r : Reach) (from : ℕ) (bs : List IntegerBox) → places_met r from empty bs ≡ []
met_none r from [] = refl
met_none r from (b ∷ bs) = ap₂ (λ (ks js : List ℕ). ks ++ js) (none_each r from (in_turns live_number b)) (met_none r from bs)

-- one box more
pub met_next : (r : Reach) (from : ℕ) (boxes : Boxes) (bs : List IntegerBox) (i : ℕ) (b : IntegerBox) (places more new : List ℕ) → slice_get bs i ≡ Some b → more ≡ places_each r from boxes (in_turns live_number b) → new ≡ places ++ more →
    new ++ places_met r from boxes (drop (i + 1) bs) ≡ places ++ places_met r from boxes (drop i bs)
met_next r from boxes bs i b places more new at found all =
    let rest = places_met r from boxes (drop (i + 1) bs) in
    ap (λ (ks : List ℕ). ks ++ rest) (all ∙ ap (λ (ks : List ℕ). places ++ ks) found)
    ∙ append_assoc places (places_each r from boxes (in_turns live_number b)) rest
    ∙ ap (λ (cs : List IntegerBox). places ++ places_met r from boxes cs) (sym (drop_item bs i b (slice_get_within bs i b at) (sym (get_or_from_slice_get bs i b b at))))

-- numbers in rising order, each once, are those of a list
pub record AreInOrder (all places : List ℕ) : Type 0 where
  pub rising : IsStrictlySortedBy nat_cmp places
  pub same : (k : ℕ) → is_listed k places ≡ is_listed k all

-- each of them stands in the list
pub in_order_of : (all places : List ℕ) → AreInOrder all places → (k : ℕ) → Listed k places → Listed k all
in_order_of all places h k l = number_listed k all (sym (h.same k) ∙ listed_number k places l)

-- none of the places that are met is behind those with boxes
pub met_within : {A : Type 0} (r : Reach) (from : ℕ) (boxes : Boxes) (bs : List IntegerBox) (places : List ℕ) (xs : List A) → AreInOrder (places_met r from boxes bs) places → NoneBehind boxes (length xs) → AreWithin xs places
met_within r from boxes bs places xs h none = of_all (λ (k : ℕ). k < length xs) places (λ k l. by k (met_at r from boxes bs k (in_order_of (places_met r from boxes bs) places h k l)) (cases_lt k (length xs)))
  where
    by : (k : ℕ) → IsMet r from boxes k → (k < length xs) ⊎ (length xs ≤ k) → k < length xs
    by k m c = ⊎_elim (λ f. f) (λ f. absurd (let own = m.own in reached_box (is_closed r) m.box boxes m.id m.listed (none m.id (omega (arith, f, own))))) c

-- places from one on, in rising order, with those of all live lots of a layer that have a part that may meet one of a list
pub record AreAllNear (r : Reach) (ps : List Part) (y : Label) (lots : List (Lot (Unit {0}))) (from : ℕ) (places : List ℕ) : Type 0 where
  pub rising : IsStrictlySortedBy nat_cmp places
  pub behind : AllByRecursion (λ k. from ≤ k) places
  pub within : AreWithin lots places
  pub all : (k : ℕ) (l : Lot (Unit {0})) → from ≤ k → slice_get lots k ≡ Some l → is_live l ≡ true → label_eq l.layer y ≡ true → is_near r ps l ≡ true → Listed k places

-- the places at which a box meets one of the list are such
pub places_near : (r : Reach) (ps : List Part) (y : Label) (lots : List (Lot (Unit {0}))) (boxes : Boxes) (from : ℕ) (places : List ℕ) → IsIndexAt y lots boxes → AreInOrder (places_met r from boxes (boxes_of_parts ps)) places → AreAllNear r ps y lots from places
places_near r ps y lots boxes from places h reached = record {
  rising = reached.rising;
  behind = of_all (λ (k : ℕ). from ≤ k) places (λ k l. (met_at r from boxes (boxes_of_parts ps) k (in_order_of all places reached k l)).behind);
  within = met_within r from boxes (boxes_of_parts ps) places lots reached (none_behind_lots y lots boxes h);
  all = λ k l f at lives own near.
      let m = boxes_meet r ps l near in
      let stands = subst (λ (bs : List IntegerBox). Listed (moved m.other) bs) (sym (live_boxes l lives)) (listed_image moved m.other (boxes_of_parts l.parts) m.other_listed) in
      let box = lot_box y lots boxes h k l at own (moved m.other) stands in
      let axis = axis_of m.other in
      let asked = moved_in axis live_number m.box in
      let id = box_reached (is_closed r) asked (moved m.other) boxes box.0 box.2 (moved_in_meet (is_closed r) axis live_number m.box m.other m.meet) in
      number_listed k places (reached.same k ∙ listed_number k all (place_met r from boxes (boxes_of_parts ps) m.box m.listed asked (turn_listed axis live_number m.box) k box.0 id box.1 f));
}
  where
    all : List ℕ
    all = places_met r from boxes (boxes_of_parts ps)
