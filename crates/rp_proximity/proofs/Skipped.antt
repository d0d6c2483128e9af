-- Lots whose boxes meet none of a list's are passed over by the walks.
use Rattle.std.proofs.Common.{◌≡◌, ◌+◌, Bool, true, false, not, cond, ◌==◌, List, [], ◌∷◌, ◌++◌, filter, Option, Some, refl, sym, ap, ◌∙◌, arith, count_by}
use Rattle.std.proofs.lemmas.Bool.{or_parts, eqb-true}
use Rattle.std.proofs.lemmas.List.Sums.{sum_by-cons}
use Rattle.rp_geometry.specs.Geometry.{HalfSpace}
use Rattle.rp_geometry.specs.sets.Shape.{Part}
use Rattle.rp_language.specs.Name.{Label, label_eq, is_among}
use Rattle.rp_semantics.specs.Walk.{Outcome, done, stopped, stop, taken_wrong, Walk, pass, after_first, Tester}
use Rattle.rp_semantics.specs.Form.{near_pair, touching_pair, test_pair_if, first_with_part, first_pair, common_nearby}
use Rattle.rp_model.specs.states.State.{Lot, is_live, live_lots, lots_of_layer, other_lots, ids_of}
use Rattle.rp_model.specs.commands.Parts.{count_pairs, lot_parts}
use Rattle.rp_model.specs.commands.Register.{first_overlapped}
use Rattle.rp_model.specs.commands.Neighbours.{touched_lot, touched_lots}
use Rattle.rp_model.specs.commands.Audit.{all_apart_from}
use Rattle.rp_history.proofs.Found.{picked_not_there}
use Rattle.rp_proximity.specs.declared.reach.Reach.{Reach}
use Rattle.rp_proximity.specs.declared.reach.Reach.TheVariants.{Overlap, Touch}
use Rattle.rp_proximity.specs.Near.{may_meet, others_in, is_near}

-- ---- pairs that do not meet

-- no part of a list meets one part
none_with_part : {W : Type 0} (chosen : Part → Part → Bool) (test : List HalfSpace → Walk W Bool) (p : Part) (qs : List Part) (w : W) → count_by (λ q. chosen p q) qs ≡ 0 → first_with_part chosen test p qs w ≡ done false w
none_with_part chosen test p [] w e = refl
none_with_part chosen test p (q ∷ qs) w e = by (chosen p q) refl (none_with_part chosen test p qs w)
  where
    sums : count_by (λ r. chosen p r) (q ∷ qs) ≡ cond (chosen p q) 1 0 + count_by (λ r. chosen p r) qs
    sums = sum_by-cons (λ (r : Part). cond (chosen p r) 1 0) q qs

    by : (b : Bool) → chosen p q ≡ b → (count_by (λ r. chosen p r) qs ≡ 0 → first_with_part chosen test p qs w ≡ done false w) → first_with_part chosen test p (q ∷ qs) w ≡ done false w
    by true f later = let s : count_by (λ r. chosen p r) (q ∷ qs) ≡ 1 + count_by (λ r. chosen p r) qs = sums ∙ ap (λ (b : Bool). cond b 1 0 + count_by (λ r. chosen p r) qs) f in absurd (omega (arith, s, e))
    by false f later =
        let s : count_by (λ r. chosen p r) (q ∷ qs) ≡ 0 + count_by (λ r. chosen p r) qs = sums ∙ ap (λ (b : Bool). cond b 1 0 + count_by (λ r. chosen p r) qs) f in
        let rest : count_by (λ (r : Part). chosen p r) qs ≡ 0 = omega (arith, s, e) in
        ap (λ (b : Bool). after_first (λ found. elim found [ true ↦ pass true | false ↦ first_with_part chosen test p qs ]) (test_pair_if b test p q w)) f ∙ later rest

-- no parts of two lists meet
pub none_of_pairs : {W : Type 0} (chosen : Part → Part → Bool) (test : List HalfSpace → Walk W Bool) (ps qs : List Part) (w : W) → count_pairs chosen ps qs ≡ 0 → first_pair chosen test ps qs w ≡ done false w
none_of_pairs chosen test [] qs w e = refl
none_of_pairs chosen test (p ∷ ps) qs w e =
    let s = sum_by-cons (λ (r : Part). count_by (λ q. chosen r q) qs) p ps in
    let first : count_by (λ q. chosen p q) qs ≡ 0 = omega (arith, s, e) in
    let rest : count_pairs chosen ps qs ≡ 0 = omega (arith, s, e) in
    ap (after_first (λ found. elim found [ true ↦ pass true | false ↦ first_pair chosen test ps qs ])) (none_with_part chosen test p qs w first) ∙ none_of_pairs chosen test ps qs w rest

-- a lot that is not near has no pair
no_pair : (r : Reach) (ps : List Part) (l : Lot (Unit {0})) → is_near r ps l ≡ false → count_pairs (may_meet r) ps l.parts ≡ 0
no_pair r ps l e = by (count_pairs (may_meet r) ps l.parts == 0) refl e
  where
    by : (b : Bool) → (count_pairs (may_meet r) ps l.parts == 0) ≡ b → not b ≡ false → count_pairs (may_meet r) ps l.parts ≡ 0
    by true f g = eqb-true (count_pairs (may_meet r) ps l.parts) 0 f
    by false f g = absurd (cc)

-- ---- the walks

-- what comes behind a first walk may be told by another walk that comes to the same
next_same : {W A B : Type 0} (o : Outcome W A) (f g : A → Walk W B) → ((x : A) (w : W) → f x w ≡ g x w) → after_first f o ≡ after_first g o
next_same (done x w) f g each = each x w
next_same (stopped s w) f g each = refl

-- the search goes on behind a lot that shares no member
abbrev pub search_on : {W : Type 0} → Tester W → Label → List Part → List (Lot (Unit {0})) → Bool → Walk W (Option Label)
search_on tester x ps ls found = elim found [ true ↦ pass (Some x) | false ↦ first_overlapped tester ps ls ]

-- an id behind those found, where its lot touches
abbrev pub touched_by : {W : Type 0} → List Label → Label → Bool → Walk W (List Label)
touched_by found x touches = pass (elim touches [ true ↦ found ++ x ∷ [] | false ↦ found ])

-- the search for a lot that shares a member passes over lots that are not near
pub search_near : {W : Type 0} (tester : Tester W) (ps : List Part) (lots : List (Lot (Unit {0}))) (w : W) → first_overlapped tester ps (filter (is_near Overlap ps) lots) w ≡ first_overlapped tester ps lots w
search_near {W = W} tester ps [] w = refl
search_near {W = W} tester ps (l ∷ lots) w = by (is_near Overlap ps l) refl (search_near tester ps lots)
  where
    near : List (Lot (Unit {0}))
    near = filter (is_near Overlap ps) lots

    same : ((v : W) → first_overlapped tester ps near v ≡ first_overlapped tester ps lots v) → (found : Bool) (v : W) → search_on tester l.id ps near found v ≡ search_on tester l.id ps lots found v
    same later true v = refl
    same later false v = later v

    by : (b : Bool) → is_near Overlap ps l ≡ b → ((v : W) → first_overlapped tester ps near v ≡ first_overlapped tester ps lots v) →
        first_overlapped tester ps (cond b (l ∷ near) near) w ≡ first_overlapped tester ps (l ∷ lots) w
    by true f later = next_same (common_nearby tester ps l.parts w) (search_on tester l.id ps near) (search_on tester l.id ps lots) (same later)
    by false f later = later w ∙ sym (ap (after_first (search_on tester l.id ps lots)) (none_of_pairs near_pair tester.strict ps l.parts w (no_pair Overlap ps l f)))

-- so does the search for lots in contact
pub touch_near : {W : Type 0} (tester : Tester W) (found : List Label) (ps : List Part) (lots : List (Lot (Unit {0}))) (w : W) → touched_lots tester found ps (filter (is_near Touch ps) lots) w ≡ touched_lots tester found ps lots w
touch_near {W = W} tester found ps [] w = refl
touch_near {W = W} tester found ps (l ∷ lots) w = by (is_near Touch ps l) refl (λ more. touch_near tester more ps lots)
  where
    near : List (Lot (Unit {0}))
    near = filter (is_near Touch ps) lots

    by : (b : Bool) → is_near Touch ps l ≡ b → ((more : List Label) (v : W) → touched_lots tester more ps near v ≡ touched_lots tester more ps lots v) →
        touched_lots tester found ps (cond b (l ∷ near) near) w ≡ touched_lots tester found ps (l ∷ lots) w
    by true f later = next_same (touched_lot tester found ps l w) (λ more. touched_lots tester more ps near) (λ more. touched_lots tester more ps lots) later
    by false f later =
        later found w
        ∙ sym (ap (λ (o : Outcome W Bool). after_first (λ more. touched_lots tester more ps lots) (after_first (touched_by found l.id) o)) (none_of_pairs touching_pair tester.weak ps l.parts w (no_pair Touch ps l f)))

-- what is shown where two lists share no member, or do
abbrev pub apart_on : {W : Type 0} → Tester W → List Part → List (List Part) → Bool → Walk W (Unit {0})
apart_on tester ps lists found = elim found [ true ↦ stop taken_wrong | false ↦ all_apart_from tester ps lists ]

-- and so do the tests of lots that are apart
pub apart_near : {W : Type 0} (tester : Tester W) (ps : List Part) (lots : List (Lot (Unit {0}))) (w : W) → all_apart_from tester ps (lot_parts (filter (is_near Overlap ps) lots)) w ≡ all_apart_from tester ps (lot_parts lots) w
apart_near {W = W} tester ps [] w = refl
apart_near {W = W} tester ps (l ∷ lots) w = by (is_near Overlap ps l) refl (apart_near tester ps lots)
  where
    near : List (Lot (Unit {0}))
    near = filter (is_near Overlap ps) lots

    same : ((v : W) → all_apart_from tester ps (lot_parts near) v ≡ all_apart_from tester ps (lot_parts lots) v) → (found : Bool) (v : W) → apart_on tester ps (lot_parts near) found v ≡ apart_on tester ps (lot_parts lots) found v
    same later true v = refl
    same later false v = later v

    by : (b : Bool) → is_near Overlap ps l ≡ b → ((v : W) → all_apart_from tester ps (lot_parts near) v ≡ all_apart_from tester ps (lot_parts lots) v) →
        all_apart_from tester ps (lot_parts (cond b (l ∷ near) near)) w ≡ all_apart_from tester ps (lot_parts (l ∷ lots)) w
    by true f later = next_same (common_nearby tester ps l.parts w) (apart_on tester ps (lot_parts near)) (apart_on tester ps (lot_parts lots)) (same later)
    by false f later = later w ∙ sym (ap (after_first (apart_on tester ps (lot_parts lots))) (none_of_pairs near_pair tester.strict ps l.parts w (no_pair Overlap ps l f)))

-- ---- lots with another id

-- all have another id than one that none has
all_other : (x : Label) (lots : List (Lot (Unit {0}))) → is_among x (ids_of lots) ≡ false → other_lots x lots ≡ lots
all_other x [] e = refl
all_other x (l ∷ lots) e =
    let p = or_parts (label_eq x l.id) (is_among x (ids_of lots)) e in
    ap (λ (b : Bool). cond (not b) (l ∷ other_lots x lots) (other_lots x lots)) p.0 ∙ ap (λ (ls : List (Lot (Unit {0}))). l ∷ ls) (all_other x lots p.1)

-- the others are all lots of the layer
pub others_all : (y x : Label) (lots : List (Lot (Unit {0}))) → is_among x (ids_of lots) ≡ false → others_in y x lots ≡ lots_of_layer y (live_lots lots)
others_all y x lots e = all_other x (lots_of_layer y (live_lots lots)) (picked_not_there (λ (l : Lot (Unit {0})). label_eq l.layer y) x (live_lots lots) (picked_not_there is_live x lots e))
