-- Whose a point is: it is found among the lots of which a box has the point.
use Rattle.std.proofs.Common.{◌≡◌, ℕ, zero, suc, ◌/◌, ◌<◌, ◌≤◌, Bool, true, false, ◌&&◌, cond, List, [], ◌∷◌, ◌⊎◌, inl, inr, ⊎_elim, map, filter, length, Option, Some, None, slice_get, refl, sym, ap, ◌∙◌, subst, arith}
use Rattle.std.specs.Prelude.{option_map, is_none, nat_le, nat_lt}
use Rattle.std.specs.FinMap.{empty}
use Rattle.std.specs.List.{AllByRecursion, list_any}
use Rattle.std.specs.List.Sorted.{IsStrictlySortedBy}
use Rattle.std.specs.Ordering.{nat_cmp}
use Rattle.std.specs.declared.cmp.Ordering.TheVariants.{Less}
use Rattle.std.proofs.lemmas.Bool.{or_cases, leb-true}
use Rattle.std.proofs.lemmas.Bool.Decides.{nat_tests}
use Rattle.std.proofs.lemmas.Map.Keys.{sorted_head, sorted_tail}
use Rattle.std.proofs.lemmas.Option.{slice_get-map, slice_get_within}
use Rattle.rp_algebra.proofs.Listed.{Listed, first, later, all_of, all_map, listed_left, listed_right}
use Rattle.rp_algebra.proofs.Tests.{and_first, and_second, false_not_true, false_unless}
use Rattle.rp_geometry.specs.Geometry.{RationalPoint, IntegerBox, is_in_cell, is_cube_point, all_hold}
use Rattle.rp_geometry.specs.sets.Shape.{Shape, Part}
use Rattle.rp_geometry.specs.parts.LeastBox.{IsInBox, BoxHoldsCell}
use Rattle.rp_geometry.specs.parts.Parts.{IsPart, IsCheckedPart, AreOf}
use Rattle.rp_geometry.proofs.LeastBoxes.{box_itself}
use Rattle.rp_language.specs.Name.{Label, label_eq}
use Rattle.rp_model.specs.states.State.{Lot, ends_later, lots_of_layer, bare_lot, lot_of_parts}
use Rattle.rp_model.specs.commands.Verdict.{Verdict}
use Rattle.rp_model.specs.commands.Parts.{is_in_parts}
use Rattle.rp_model.specs.commands.At.{owner_line}
use Rattle.rp_states.proofs.Listing.{all_unmapped}
use Rattle.rp_boxindex.specs.Boxes.{Boxes}
use Rattle.rp_boxindex.specs.Meeting.{do_meet, meeting_ids, first_that}
use Rattle.rp_boxindex.proofs.Exact.{meeting_ids_rise_spec}
use Rattle.rp_proximity.specs.declared.moment.Moment.{Moment}
use Rattle.rp_proximity.specs.declared.moment.Moment.TheVariants.{Now, After}
use Rattle.rp_lotindex.specs.Indexed.{boxes_of_parts, box_at, box_by, IsIndexOf}
use Rattle.rp_lotindex.specs.Turns.{axis_of}
use Rattle.rp_lotindex.specs.Cubes.{live_number, past_number, moved, moved_in, moved_past, in_turns}
use Rattle.rp_lotindex.specs.Stretches.{stretch_of, stretches_with}
use Rattle.rp_proximity.specs.There.{is_there, owner_verdict, IsLine, KnowsOwners, BoxesHold}
use Rattle.rp_lotindex.specs.Owner.{is_there_at, boxes_past, boxes_asked, lesser_of, first_in, IsOwner}
use Rattle.rp_boxindex.proofs.Wider.{wider_meet}
use Rattle.rp_lotindex.proofs.Hulls.{listed_image, part_boxed}
use Rattle.rp_lotindex.proofs.Cubes.{moved_in_meet, turn_listed}
use Rattle.rp_lotindex.proofs.Boxed.{none_meet, lot_box}
use Rattle.rp_lotindex.proofs.Stretches.{stretch_listed, past_listed}
use Rattle.rp_lotindex.proofs.Reached.{box_reached}

-- ---- the boxes of sound lots

-- where each part's box holds its members, the boxes of all lots do
boxes_hold : (P : Part → Type 0) → ((q : Part) → P q → BoxHoldsCell q.bounds q.cell) → (lots : List (Lot (Unit {0}))) → AllByRecursion (λ (l : Lot Shape). AreOf P l.set l.parts) (map lot_of_parts lots) → BoxesHold lots
boxes_hold P each lots h =
    all_map (λ (l : Lot (Unit {0})). AreOf P (lot_of_parts l).set l.parts) (λ (l : Lot (Unit {0})). AllByRecursion (λ (q : Part). BoxHoldsCell q.bounds q.cell) l.parts)
    (λ l k. all_map P (λ (q : Part). BoxHoldsCell q.bounds q.cell) each l.parts k.all.each)
    lots (all_unmapped (λ (l : Lot Shape). AreOf P l.set l.parts) lot_of_parts lots h)

-- so do those of lots as the program keeps them
pub kept_boxes_hold : (lots : List (Lot (Unit {0}))) → AllByRecursion (λ (l : Lot Shape). AreOf IsPart l.set l.parts) (map lot_of_parts lots) → BoxesHold lots
kept_boxes_hold lots h = boxes_hold IsPart (λ q k. k.box.holds_all) lots h

-- and as the check keeps them
pub checked_boxes_hold : (lots : List (Lot (Unit {0}))) → AllByRecursion (λ (l : Lot Shape). AreOf IsCheckedPart l.set l.parts) (map lot_of_parts lots) → BoxesHold lots
checked_boxes_hold lots h = boxes_hold IsCheckedPart (λ q k. k.box) lots h

-- ---- the first that passes

-- the first of rising numbers that passes a test passes it, and no lesser one does
record IsLeast (test : ℕ → Bool) (ids : List ℕ) (k : ℕ) : Type 0 where
  passes : test k ≡ true
  least : (j : ℕ) → Listed j ids → test j ≡ true → k ≤ j

-- a number below another
below_less : (a b : ℕ) → nat_cmp a b ≡ Less → a ≤ b
below_less a b h = grind (arith, nat_tests)

-- it is found
first_is : (test : ℕ → Bool) (ids : List ℕ) → IsStrictlySortedBy nat_cmp ids → (k : ℕ) → first_that test ids ≡ Some k → IsLeast test ids k
first_is test [] r k e = absurd (cc)
first_is test (i ∷ ids) r k e = by (test i) refl e (first_is test ids (sorted_tail nat_cmp i ids r) k)
  where
    by : (b : Bool) → test i ≡ b → cond b (Some i) (first_that test ids) ≡ Some k → (first_that test ids ≡ Some k → IsLeast test ids k) → IsLeast test (i ∷ ids) k
    by true f g rest = let same : i ≡ k = cc in record { passes = subst (λ (n : ℕ). test n ≡ true) same f; least = λ j l t. here same j l }
      where
        here : i ≡ k → (j : ℕ) → Listed j (i ∷ ids) → k ≤ j
        here same j first = omega (arith, same)
        here same j (later l) = let f = below_less i j (all_of (λ (n : ℕ). nat_cmp i n ≡ Less) ids (sorted_head nat_cmp i ids r) j l) in omega (arith, same, f)
    by false f g rest = let h = rest g in record { passes = h.passes; least = λ j l t. behind h j l t }
      where
        behind : IsLeast test ids k → (j : ℕ) → Listed j (i ∷ ids) → test j ≡ true → k ≤ j
        behind h j first t = absurd (false_not_true (test i) t f)
        behind h j (later l) t = h.least j l t

-- where none is found, none passes
none_passes : (test : ℕ → Bool) (ids : List ℕ) → first_that test ids ≡ None → (j : ℕ) → Listed j ids → test j ≡ true → ⊥
none_passes test [] e j l t = elim l [ ]
none_passes test (i ∷ ids) e j l t = by (test i) refl e (none_passes test ids)
  where
    behind : test i ≡ false → ((k : ℕ) → Listed k ids → test k ≡ true → ⊥) → (k : ℕ) → Listed k (i ∷ ids) → test k ≡ true → ⊥
    behind f rest k first u = false_not_true (test i) u f
    behind f rest k (later m) u = rest k m u

    by : (b : Bool) → test i ≡ b → cond b (Some i) (first_that test ids) ≡ None → (first_that test ids ≡ None → (k : ℕ) → Listed k ids → test k ≡ true → ⊥) → ⊥
    by true f g rest = absurd (cc)
    by false f g rest = behind f (rest g) j l t

-- ---- the least that is found at several boxes

-- of two numbers the lesser is answered
lesser_left : (i : ℕ) (p : Option ℕ) → (k : ℕ) × (lesser_of (Some i) p ≡ Some k) × (k ≤ i)
lesser_left i None = (i, refl, omega arith)
lesser_left i (Some k) = by (nat_lt k i) refl
  where
    by : (b : Bool) → nat_lt k i ≡ b → (j : ℕ) × (lesser_of (Some i) (Some k) ≡ Some j) × (j ≤ i)
    by true e = (k, ap (λ (b : Bool). cond b (Some k) (Some i)) e, grind (arith, nat_tests))
    by false e = (i, ap (λ (b : Bool). cond b (Some k) (Some i)) e, omega arith)

lesser_right : (o : Option ℕ) (k : ℕ) → (j : ℕ) × (lesser_of o (Some k) ≡ Some j) × (j ≤ k)
lesser_right None k = (k, refl, omega arith)
lesser_right (Some i) k = by (nat_lt k i) refl
  where
    by : (b : Bool) → nat_lt k i ≡ b → (j : ℕ) × (lesser_of (Some i) (Some k) ≡ Some j) × (j ≤ k)
    by true e = (k, ap (λ (b : Bool). cond b (Some k) (Some i)) e, omega arith)
    by false e = (i, ap (λ (b : Bool). cond b (Some k) (Some i)) e, grind (arith, nat_tests))

-- what is answered is one of them
lesser_one : (o p : Option ℕ) (k : ℕ) → lesser_of o p ≡ Some k → (o ≡ Some k) ⊎ (p ≡ Some k)
lesser_one None p k e = inr e
lesser_one (Some i) None k e = inl e
lesser_one (Some i) (Some j) k e = by (nat_lt j i) e
  where
    by : (b : Bool) → cond b (Some j) (Some i) ≡ Some k → (Some i ≡ Some k) ⊎ (Some j ≡ Some k)
    by true e = inr e
    by false e = inl e

module _ (test : ℕ → Bool) (boxes : Boxes) where
  -- of one box the least is found
  found_at : (b : IntegerBox) (j : ℕ) → Listed j (meeting_ids false b boxes) → test j ≡ true → (k : ℕ) × (first_that test (meeting_ids false b boxes) ≡ Some k) × (k ≤ j)
  found_at b j l t = by (first_that test (meeting_ids false b boxes)) refl
    where
      by : (o : Option ℕ) → first_that test (meeting_ids false b boxes) ≡ o → (k : ℕ) × (first_that test (meeting_ids false b boxes) ≡ Some k) × (k ≤ j)
      by None e = absurd (none_passes test (meeting_ids false b boxes) e j l t)
      by (Some k) e = (k, e, (first_is test (meeting_ids false b boxes) (meeting_ids_rise_spec false b boxes) k e).least j l t)

  -- a number that was there is not below what is found
  start_above : (bs : List IntegerBox) (i : ℕ) → (k : ℕ) × (first_in test boxes bs (Some i) ≡ Some k) × (k ≤ i)
  start_above [] i = (i, refl, omega arith)
  start_above (b ∷ bs) i =
      let one = lesser_left i (first_that test (meeting_ids false b boxes)) in
      let rest = start_above bs one.0 in
      let low = one.2 in
      let lower = rest.2 in
      (rest.0, ap (first_in test boxes bs) one.1 ∙ rest.1, omega (arith, low, lower))

  -- nor is one that is found at a box
  found_above : (bs : List IntegerBox) (o : Option ℕ) (b : IntegerBox) → Listed b bs → (j : ℕ) → Listed j (meeting_ids false b boxes) → test j ≡ true → (k : ℕ) × (first_in test boxes bs o ≡ Some k) × (k ≤ j)
  found_above [] o b l j m t = elim l [ ]
  found_above (c ∷ bs) o b first j m t =
      let own = found_at b j m t in
      let one = lesser_right o own.0 in
      let rest = start_above bs one.0 in
      let low = own.2 in
      let lower = one.2 in
      let lowest = rest.2 in
      (rest.0, ap (λ (p : Option ℕ). first_in test boxes bs (lesser_of o p)) own.1 ∙ ap (first_in test boxes bs) one.1 ∙ rest.1, omega (arith, low, lower, lowest))
  found_above (c ∷ bs) o b (later l) j m t = found_above bs (lesser_of o (first_that test (meeting_ids false c boxes))) b l j m t

  -- what is found passes
  found_passes : (bs : List IntegerBox) (o : Option ℕ) → ((k : ℕ) → o ≡ Some k → test k ≡ true) → (k : ℕ) → first_in test boxes bs o ≡ Some k → test k ≡ true
  found_passes [] o h k e = h k e
  found_passes (b ∷ bs) o h k e = found_passes bs (lesser_of o (first_that test (meeting_ids false b boxes))) each k e
    where
      each : (i : ℕ) → lesser_of o (first_that test (meeting_ids false b boxes)) ≡ Some i → test i ≡ true
      each i f = ⊎_elim (h i) (λ g. (first_is test (meeting_ids false b boxes) (meeting_ids_rise_spec false b boxes) i g).passes) (lesser_one o (first_that test (meeting_ids false b boxes)) i f)

-- where there are no boxes, nothing is found
pub first_in_none : (test : ℕ → Bool) (bs : List IntegerBox) → None ≡ first_in test empty bs None
first_in_none test [] = refl
first_in_none test (b ∷ bs) = first_in_none test bs ∙ ap (λ (ids : List ℕ). first_in test empty bs (lesser_of None (first_that test ids))) (sym (none_meet false b))

-- ---- the owner among lots

module _ (test : Lot (Unit {0}) → Bool) (y : Label) (p : RationalPoint) where
  -- the owner among the lots of a layer that pass a test
  abbrev owner_among : List (Lot (Unit {0})) → Verdict
  owner_among lots = owner_line (lots_of_layer y (filter test lots)) p

  -- a lot passes, is of the layer and has the point
  abbrev owns : Lot (Unit {0}) → Bool
  owns l = (test l && label_eq l.layer y) && is_in_parts l.parts p

  -- the first lot, or one of the others
  abbrev owner_by : Bool → Label → List (Lot (Unit {0})) → Verdict
  owner_by b x ls = elim b [ true ↦ Verdict.parcel x | false ↦ owner_among ls ]

  -- it is the first where that passes and has the point
  owner_first : (l : Lot (Unit {0})) (ls : List (Lot (Unit {0}))) → owner_among (l ∷ ls) ≡ owner_by (owns l) l.id ls
  owner_first l ls = by (test l) refl (label_eq l.layer y) refl
    where
      by : (a : Bool) → test l ≡ a → (b : Bool) → label_eq l.layer y ≡ b →
          owner_line (lots_of_layer y (cond a (l ∷ filter test ls) (filter test ls))) p ≡ owner_by ((a && label_eq l.layer y) && is_in_parts l.parts p) l.id ls
      by false e b f = refl
      by true e true f =
          ap (λ (c : Bool). owner_line (cond c (l ∷ lots_of_layer y (filter test ls)) (lots_of_layer y (filter test ls))) p) f
          ∙ sym (ap (λ (c : Bool). owner_by (c && is_in_parts l.parts p) l.id ls) f)
      by true e false f =
          ap (λ (c : Bool). owner_line (cond c (l ∷ lots_of_layer y (filter test ls)) (lots_of_layer y (filter test ls))) p) f
          ∙ sym (ap (λ (c : Bool). owner_by (c && is_in_parts l.parts p) l.id ls) f)

  -- where no lot owns the point, nobody does
  owner_none : (ls : List (Lot (Unit {0}))) → ((k : ℕ) (l : Lot (Unit {0})) → slice_get ls k ≡ Some l → owns l ≡ false) → owner_among ls ≡ Verdict.nobody
  owner_none [] h = refl
  owner_none (l ∷ ls) h = owner_first l ls ∙ ap (λ (b : Bool). owner_by b l.id ls) (h zero l refl) ∙ owner_none ls (λ k m e. h (suc k) m e)

  -- the first lot that owns it does
  owner_at : (ls : List (Lot (Unit {0}))) (k : ℕ) (l : Lot (Unit {0})) → slice_get ls k ≡ Some l → owns l ≡ true → ((j : ℕ) (m : Lot (Unit {0})) → j < k → slice_get ls j ≡ Some m → owns m ≡ false) → owner_among ls ≡ Verdict.parcel l.id
  owner_at [] k l e t h = absurd (cc)
  owner_at (m ∷ ls) zero l e t h =
      let same : l ≡ m = cc in
      owner_first m ls ∙ ap (λ (b : Bool). owner_by b m.id ls) (ap owns (sym same) ∙ t) ∙ ap (λ (n : Lot (Unit {0})). Verdict.parcel n.id) (sym same)
  owner_at (m ∷ ls) (suc k) l e t h = owner_first m ls ∙ ap (λ (b : Bool). owner_by b m.id ls) (h zero m (omega arith) refl) ∙ owner_at ls k l e t (λ j n f g. h (suc j) n (omega (arith, f)) g)

-- ---- the owner in an index

-- a list some item of which passes a test has such an item
some_passes : {A : Type 0} (test : A → Bool) (xs : List A) → list_any test xs ≡ true → (x : A) × Listed x xs × (test x ≡ true)
some_passes test [] e = absurd (cc)
some_passes test (x ∷ xs) e = ⊎_elim (λ t. (x, first, t)) (λ t. let o = some_passes test xs t in (o.0, later o.1, o.2)) (or_cases (test x) (list_any test xs) e)

-- a point outside the cube is in no part
outside_parts : (ps : List Part) (p : RationalPoint) → is_cube_point p ≡ false → is_in_parts ps p ≡ false
outside_parts [] p e = refl
outside_parts (q ∷ ps) p e = false_unless (is_in_parts (q ∷ ps) p) (λ t. let o = some_passes (λ (r : Part). is_in_cell r.cell p) (q ∷ ps) t in false_not_true (is_cube_point p) (and_first (is_cube_point p) (all_hold o.0.cell p) o.2) e)

-- where a box of a lot stands, by its end
abbrev box_until : ℕ → IntegerBox → Option ℕ → IntegerBox
box_until born b o = elim o [ None ↦ moved b | Some t ↦ moved_past (stretch_of born t) b ]

-- a box that is asked about meets that of a lot that is there at the moment
record IsAsked (m : Moment) (unit hull : IntegerBox) (born : ℕ) (o : Option ℕ) : Type 0 where
  box : IntegerBox
  listed : Listed box (boxes_asked m unit)
  meets : do_meet false box (box_until born hull o) ≡ true

asked : (m : Moment) (unit hull : IntegerBox) (l : Lot (Unit {0})) → IsLine m → do_meet false unit hull ≡ true → is_there m l ≡ true → (o : Option ℕ) → l.ended ≡ o → IsAsked m unit hull l.born o
asked Now unit hull l line h e None f =
    let axis = axis_of hull in
    record { box = moved_in axis live_number unit; listed = turn_listed axis live_number unit; meets = moved_in_meet false axis live_number unit hull h }
asked Now unit hull l line h e (Some t) f = absurd (let g : is_none (Some t) ≡ true = sym (ap (λ (o : Option ℕ). is_none o) f) ∙ e in cc (g))
asked (After n) unit hull l line h e None f =
    let axis = axis_of hull in
    let box = moved_in axis live_number unit in
    record { box = box; listed = listed_left box (in_turns live_number unit) (boxes_past unit (stretches_with n)) (turn_listed axis live_number unit); meets = moved_in_meet false axis live_number unit hull h }
asked (After n) unit hull l line h e (Some t) f =
    let s = stretch_of l.born t in
    let low : l.born ≤ n = leb-true l.born n (and_first (nat_le l.born n) (ends_later n l.ended) e) in
    let later_end : nat_lt n t ≡ true = sym (ap (λ (o : Option ℕ). ends_later n o) f) ∙ and_second (nat_le l.born n) (ends_later n l.ended) e in
    let high : n < t = grind (arith, nat_tests) in
    let axis = axis_of hull in
    let box = moved_in axis (past_number s) unit in
    let stretch = stretch_listed 31 0 (l.born / 2) (n / 2) (t / 2) (omega (arith, low)) (omega (arith, high)) (omega (arith, line)) in
    record {
      box = box;
      listed = listed_right box (in_turns live_number unit) (boxes_past unit (stretches_with n)) (past_listed unit s (stretches_with n) stretch box (turn_listed axis (past_number s) unit));
      meets = moved_in_meet false axis (past_number s) unit hull h;
    }

-- a lot is there without its parts as with them
there_bare : (m : Moment) (l : Lot (Unit {0})) → is_there m (bare_lot l) ≡ is_there m l
there_bare Now l = refl
there_bare (After n) l = refl

module _ (has : ℕ → Bool) (y : Label) (m : Moment) (p : RationalPoint) (history : List (Lot (Unit {0}))) (index : Label → Boxes) where
  -- the lot at the place of an id is there, of the layer, and has the point
  abbrev pub passes : ℕ → Bool
  passes id = is_there_at m y history (id / 16) && has (id / 16)

  -- as the lots say
  passes_is : (lots : List (Lot (Unit {0}))) → history ≡ map bare_lot lots → KnowsOwners has lots p → (id : ℕ) (l : Lot (Unit {0})) → slice_get lots (id / 16) ≡ Some l → passes id ≡ owns (is_there m) y p l
  passes_is lots bare knows id l at =
      ap (λ (b : Bool). b && has (id / 16))
      (ap test_of (ap (λ (ls : List (Lot (Unit {0}))). slice_get ls (id / 16)) bare ∙ slice_get-map bare_lot lots (id / 16) ∙ ap (option_map bare_lot) at) ∙ ap (λ (b : Bool). b && label_eq l.layer y) (there_bare m l))
      ∙ ap (λ (b : Bool). (is_there m l && label_eq l.layer y) && b) (knows (id / 16) l at)
    where
      test_of : Option (Lot (Unit {0})) → Bool
      test_of o = elim o [ None ↦ false | Some l ↦ is_there m l && label_eq l.layer y ]

  -- nobody has a point outside the cube
  pub outside_owner : is_cube_point p ≡ false → IsOwner has y m p history index None
  outside_owner e lots bare indexed hold knows =
      sym (owner_none (is_there m) y p lots (λ k l at. false_unless (owns (is_there m) y p l) (λ t. false_not_true (is_in_parts l.parts p) (and_second (is_there m l && label_eq l.layer y) (is_in_parts l.parts p) t) (outside_parts l.parts p e))))

  module _ (unit : IntegerBox) (meets : (b : IntegerBox) → IsInBox b p → do_meet false unit b ≡ true) (line : IsLine m) where
    -- the id of a box of a place is found, since one that is asked about meets it
    record IsFound (k : ℕ) : Type 0 where
      box : IntegerBox
      listed : Listed box (boxes_asked m unit)
      id : ℕ
      own : id / 16 ≡ k
      reached : Listed id (meeting_ids false box (index y))

    -- so it is where a lot owns the point
    owner_reached : (lots : List (Lot (Unit {0}))) → IsIndexOf lots index → BoxesHold lots → (k : ℕ) (l : Lot (Unit {0})) → slice_get lots k ≡ Some l → owns (is_there m) y p l ≡ true → IsFound k
    owner_reached lots indexed hold k l at t =
        let q = some_passes (λ (r : Part). is_in_cell r.cell p) l.parts (and_second (is_there m l && label_eq l.layer y) (is_in_parts l.parts p) t) in
        let here = and_first (is_there m l && label_eq l.layer y) (is_in_parts l.parts p) t in
        let there = and_first (is_there m l) (label_eq l.layer y) here in
        let own = and_second (is_there m l) (label_eq l.layer y) here in
        let held = all_of (λ (r : Part). BoxHoldsCell r.bounds r.cell) l.parts (all_at lots k l at hold) q.0 q.1 in
        let b = part_boxed q.0 l.parts q.1 in
        let touch = wider_meet false unit q.0.bounds unit b.0 (box_itself unit) b.2 (meets q.0.bounds (held p q.2)) in
        let a = asked m unit b.0 l line touch there l.ended refl in
        let stood = lot_box y lots (index y) (indexed y) k l at own (box_by l b.0) (listed_image (box_by l) b.0 (boxes_of_parts l.parts) b.1) in
        record { box = a.box; listed = a.listed; id = stood.0; own = stood.1; reached = box_reached false a.box (box_until l.born b.0 l.ended) (index y) stood.0 stood.2 a.meets }
      where
        all_at : (ls : List (Lot (Unit {0}))) (k : ℕ) (l : Lot (Unit {0})) → slice_get ls k ≡ Some l → BoxesHold ls → AllByRecursion (λ (q : Part). BoxHoldsCell q.bounds q.cell) l.parts
        all_at [] k l e h = absurd (cc)
        all_at (n ∷ ls) zero l e h = let same : n ≡ l = cc in subst (λ (o : Lot (Unit {0})). AllByRecursion (λ (q : Part). BoxHoldsCell q.bounds q.cell) o.parts) same h.0
        all_at (n ∷ ls) (suc k) l e h = all_at ls k l e h.1

    -- what is found
    abbrev found : Option ℕ
    found = first_in passes (index y) (boxes_asked m unit) None

    -- it passes
    found_is : (k : ℕ) → found ≡ Some k → passes k ≡ true
    found_is k e = found_passes passes (index y) (boxes_asked m unit) None (λ i f. absurd (cc)) k e

    -- its place is not behind a lot that owns the point
    found_before : (lots : List (Lot (Unit {0}))) → history ≡ map bare_lot lots → IsIndexOf lots index → BoxesHold lots → KnowsOwners has lots p → (j : ℕ) (n : Lot (Unit {0})) → slice_get lots j ≡ Some n → owns (is_there m) y p n ≡ true → (id : ℕ) × (found ≡ Some id) × (id / 16 ≤ j)
    found_before lots bare indexed hold knows j n at t =
        let r = owner_reached lots indexed hold j n at t in
        let f = found_above passes (index y) (boxes_asked m unit) None r.box r.listed r.id r.reached (passes_is lots bare knows r.id n (ap (slice_get lots) r.own ∙ at) ∙ t) in
        (f.0, f.1, let low = f.2 in let own = r.own in omega (arith, low, own))

    -- its place is one of the history
    pub found_within : (id : ℕ) → found ≡ Some id → id / 16 < length history
    found_within id e = by (slice_get history (id / 16)) refl (and_first (is_there_at m y history (id / 16)) (has (id / 16)) (found_is id e))
      where
        by : (o : Option (Lot (Unit {0}))) → slice_get history (id / 16) ≡ o → is_there_at m y history (id / 16) ≡ true → id / 16 < length history
        by None at t = absurd (false_not_true (is_there_at m y history (id / 16)) t (ap (λ (o : Option (Lot (Unit {0}))). elim o as (λ _. Bool) [ None ↦ false | Some l ↦ is_there m l && label_eq l.layer y ]) at))
        by (Some l) at t = slice_get_within history (id / 16) l at

    -- where none is found, nobody has the point
    pub owner_missing : found ≡ None → IsOwner has y m p history index None
    owner_missing e lots bare indexed hold knows =
        sym (owner_none (is_there m) y p lots (λ k l at. false_unless (owns (is_there m) y p l) (λ t. let f = (found_before lots bare indexed hold knows k l at t).1 in absurd (cc (e, f)))))

    -- one that is found has it
    pub owner_found : (id : ℕ) (line : Lot (Unit {0})) → found ≡ Some id → slice_get history (id / 16) ≡ Some line → IsOwner has y m p history index (Some line.id)
    owner_found id line e there lots bare indexed hold knows =
        by (slice_get lots (id / 16)) refl (sym (slice_get-map bare_lot lots (id / 16)) ∙ sym (ap (λ (ls : List (Lot (Unit {0}))). slice_get ls (id / 16)) bare) ∙ there)
      where
        -- no earlier one owns the point
        earlier : (j : ℕ) (n : Lot (Unit {0})) → j < id / 16 → slice_get lots j ≡ Some n → owns (is_there m) y p n ≡ true → ⊥
        earlier j n f g t =
            let b = found_before lots bare indexed hold knows j n g t in
            let own = b.1 in
            let same : b.0 ≡ id = cc (e, own) in
            let low = b.2 in
            omega (arith, f, same, low)

        by : (o : Option (Lot (Unit {0}))) → slice_get lots (id / 16) ≡ o → option_map bare_lot (slice_get lots (id / 16)) ≡ Some line → owner_verdict (Some line.id) ≡ owner_among (is_there m) y p lots
        by None at f = absurd (let g : option_map bare_lot None ≡ Some line = sym (ap (option_map bare_lot) at) ∙ f in cc (g))
        by (Some l) at f =
            let own : Some (bare_lot l) ≡ Some line = sym (ap (option_map bare_lot) at) ∙ f in
            let same : bare_lot l ≡ line = cc (own) in
            ap (λ (n : Lot (Unit {0})). Verdict.parcel n.id) (sym same)
            ∙ sym (owner_at (is_there m) y p lots (id / 16) l at (sym (passes_is lots bare knows id l at) ∙ found_is id e)
            (λ j n f g. false_unless (owns (is_there m) y p n) (λ t. absurd (earlier j n f g t))))
