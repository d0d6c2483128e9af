-- The least box around boxes contains each of them.
use Rattle.std.proofs.Common.{◌≡◌, ◌<◌, ◌≤◌, Bool, true, false, cond, List, [], ◌∷◌, map, length, ⊎_elim, ap, ◌∙◌, arith}
use Rattle.std.specs.Prelude.{nat_le}
use Rattle.std.proofs.lemmas.Bool.{cases_lt, le-leb}
use Rattle.std.proofs.lemmas.Bool.Decides.{nat_tests}
use Rattle.std.proofs.lemmas.List.{length-map}
use Rattle.rp_algebra.proofs.Listed.{Listed, first, later}
use Rattle.rp_geometry.specs.Geometry.{IntegerBox}
use Rattle.rp_geometry.specs.sets.Shape.{Part}
use Rattle.rp_geometry.specs.parts.LeastBox.{IsBoxWithin, box_union}
use Rattle.rp_geometry.proofs.LeastBoxes.{box_itself, union_left, union_right, box_further}
use Rattle.rp_proximity.specs.Hulls.{bounds_of, joined}
use Rattle.rp_lotindex.specs.Indexed.{hull_of, hull_of_parts, boxes_of_parts}

-- ---- hulls

-- a box lies in the least box around it and further ones
start_within : (b : IntegerBox) (cs : List IntegerBox) → IsBoxWithin b (joined b cs)
start_within b [] = box_itself b
start_within b (c ∷ cs) = box_further b (box_union b c) (joined (box_union b c) cs) (union_left b c) (start_within (box_union b c) cs)

-- and so does each of these
further_within : (b c : IntegerBox) (cs : List IntegerBox) → Listed c cs → IsBoxWithin c (joined b cs)
further_within b c [] l = elim l [ ]
further_within b c (d ∷ cs) first = box_further c (box_union b c) (joined (box_union b c) cs) (union_right b c) (start_within (box_union b c) cs)
further_within b c (d ∷ cs) (later l) = further_within (box_union b d) c cs l

-- each box lies in the least box around all
box_within : (c : IntegerBox) (bs : List IntegerBox) → Listed c bs → IsBoxWithin c (hull_of bs)
box_within c [] l = elim l [ ]
box_within c (b ∷ bs) first = start_within c bs
box_within c (b ∷ bs) (later l) = further_within b c bs l

-- the image of an item stands among the images of all
pub listed_image : {A B : Type 0} (f : A → B) (x : A) (xs : List A) → Listed x xs → Listed (f x) (map f xs)
listed_image f x [] l = elim l [ ]
listed_image f x (y ∷ xs) first = first
listed_image f x (y ∷ xs) (later l) = later (listed_image f x xs l)

-- the box of each part stands among the boxes of all
bounds_listed : (p : Part) (ps : List Part) → Listed p ps → Listed p.bounds (bounds_of ps)
bounds_listed p ps l = listed_image (λ (q : Part). q.bounds) p ps l

-- so it lies in the least box around them
part_within : (p : Part) (ps : List Part) → Listed p ps → IsBoxWithin p.bounds (hull_of_parts ps)
part_within p ps l = box_within p.bounds (bounds_of ps) (bounds_listed p ps l)

-- ---- the boxes of a form

-- the box of each part is one of them, or lies in one
pub part_boxed : (p : Part) (ps : List Part) → Listed p ps → (b : IntegerBox) × Listed b (boxes_of_parts ps) × IsBoxWithin p.bounds b
part_boxed p ps l = by (nat_le (length ps) 16)
  where
    by : (few : Bool) → (b : IntegerBox) × Listed b (cond few (bounds_of ps) (hull_of_parts ps ∷ [])) × IsBoxWithin p.bounds b
    by true = (p.bounds, bounds_listed p ps l, box_itself p.bounds)
    by false = (hull_of_parts ps, first, part_within p ps l)

-- of few parts they are those of the parts
pub boxes_few : (ps : List Part) → length ps ≤ 16 → boxes_of_parts ps ≡ bounds_of ps
boxes_few ps f = ap (λ (few : Bool). cond few (bounds_of ps) (hull_of_parts ps ∷ [])) (le-leb (length ps) 16 f)

-- of more it is the least one around them
pub boxes_many : (ps : List Part) → 16 < length ps → boxes_of_parts ps ≡ hull_of_parts ps ∷ []
boxes_many ps f = ap (λ (few : Bool). cond few (bounds_of ps) (hull_of_parts ps ∷ [])) (let e : nat_le (length ps) 16 ≡ false = grind (arith, nat_tests) in e)

-- so they are few
pub few_boxes : (ps : List Part) → length (boxes_of_parts ps) ≤ 16
few_boxes ps = ⊎_elim
    (λ (f : 16 < length ps). let one = ap length (boxes_many ps f) in omega (arith, one))
    (λ (f : length ps ≤ 16). let many = ap length (boxes_few ps f) ∙ length-map ps (λ (p : Part). p.bounds) in omega (arith, f, many))
    (cases_lt 16 (length ps))
