-- Boxes around boxes: what lies in them, and that nothing meets which lies in one that does not.
use Rattle.std.proofs.Common.{◌≡◌, ℕ, ℤ, Bool, true, false, cond, not, ◌&&◌, int_le, List, ◌∷◌, ◌++◌, refl, arith}
use Rattle.std.specs.Int.{int_min, int_max}
use Rattle.std.proofs.lemmas.Int.{ints}
use Rattle.rp_algebra.proofs.Tests.{false_of_not, both_follow, false_not_true}
use Rattle.rp_geometry.specs.Geometry.{IntegerBox}
use Rattle.rp_geometry.specs.parts.LeastBox.{box_union}
use Rattle.rp_space.specs.Boxes.{integer_box}
use Rattle.rp_boxindex.specs.Boxes.{Entry}
use Rattle.rp_boxindex.specs.Counts.{count}
use Rattle.rp_boxindex.specs.Meeting.{is_below, do_meet, meets}
use Rattle.rp_boxindex.specs.tree.Nodes.{is_within, AreWithin}
use Rattle.rp_boxindex.proofs.Changes.{is_not}
use Rattle.rp_boxindex.proofs.Counts.{count-none, count-round, when}
use Rattle.rp_boxindex.proofs.Ints.{le_then_le}
use Rattle.rp_boxindex.proofs.Order.{and_parts}
use Rattle.rp_boxindex.proofs.Pruned.{below_farther, below_nearer}

-- what the six tests of a box that lies in another say
record AreSides (hull b : IntegerBox) : Type 0 where
  pub x1 : int_le hull.x1 b.x1 ≡ true
  pub x2 : int_le b.x2 hull.x2 ≡ true
  pub y1 : int_le hull.y1 b.y1 ≡ true
  pub y2 : int_le b.y2 hull.y2 ≡ true
  pub z1 : int_le hull.z1 b.z1 ≡ true
  pub z2 : int_le b.z2 hull.z2 ≡ true

sides : (hull b : IntegerBox) → is_within hull b ≡ true → AreSides hull b
sides hull b h =
    let z2 = and_parts _ (int_le b.z2 hull.z2) h in
    let z1 = and_parts _ (int_le hull.z1 b.z1) z2.0 in
    let y2 = and_parts _ (int_le b.y2 hull.y2) z1.0 in
    let y1 = and_parts _ (int_le hull.y1 b.y1) y2.0 in
    let x = and_parts (int_le hull.x1 b.x1) (int_le b.x2 hull.x2) y1.0 in
    record { x1 = x.0; x2 = x.1; y1 = y1.1; y2 = y2.1; z1 = z1.1; z2 = z2.1 }

from_sides : (hull b : IntegerBox) → AreSides hull b → is_within hull b ≡ true
from_sides hull b s = rw (s.x1, s.x2, s.y1, s.y2, s.z1) s.z2

min_first : (a b : ℤ) → int_le (int_min a b) a ≡ true
min_first a b = grind (arith, ints)

min_second : (a b : ℤ) → int_le (int_min a b) b ≡ true
min_second a b = grind (arith, ints)

max_first : (a b : ℤ) → int_le a (int_max a b) ≡ true
max_first a b = grind (arith, ints)

max_second : (a b : ℤ) → int_le b (int_max a b) ≡ true
max_second a b = grind (arith, ints)

-- two boxes lie in the least one that holds both
pub union_first : (b e : IntegerBox) → is_within (box_union b e) b ≡ true
union_first b e = from_sides (box_union b e) b (record { x1 = min_first b.x1 e.x1; x2 = max_first b.x2 e.x2; y1 = min_first b.y1 e.y1; y2 = max_first b.y2 e.y2; z1 = min_first b.z1 e.z1; z2 = max_first b.z2 e.z2 })

pub union_second : (b e : IntegerBox) → is_within (box_union b e) e ≡ true
union_second b e = from_sides (box_union b e) e (record { x1 = min_second b.x1 e.x1; x2 = max_second b.x2 e.x2; y1 = min_second b.y1 e.y1; y2 = max_second b.y2 e.y2; z1 = min_second b.z1 e.z1; z2 = max_second b.z2 e.z2 })

-- a box lies in what holds a box that holds it
within_further : (a b c : IntegerBox) → is_within a b ≡ true → is_within b c ≡ true → is_within a c ≡ true
within_further a b c h k =
    let s = sides a b h in
    let t = sides b c k in
    from_sides a c (record {
      x1 = le_then_le a.x1 b.x1 c.x1 s.x1 t.x1;
      x2 = le_then_le c.x2 b.x2 a.x2 t.x2 s.x2;
      y1 = le_then_le a.y1 b.y1 c.y1 s.y1 t.y1;
      y2 = le_then_le c.y2 b.y2 a.y2 t.y2 s.y2;
      z1 = le_then_le a.z1 b.z1 c.z1 s.z1 t.z1;
      z2 = le_then_le c.z2 b.z2 a.z2 t.z2 s.z2;
    })

pub are_within_further : (a b : IntegerBox) (es : List Entry) → is_within a b ≡ true → AreWithin b es → AreWithin a es
are_within_further a b es h = count-none (λ (e : Entry). not (is_within a (integer_box e.1))) (λ (e : Entry). not (is_within b (integer_box e.1))) (λ e m. is_not (is_within b (integer_box e.1)) (λ k. absurd (false_not_true _ (within_further a b (integer_box e.1) h k) (false_of_not (is_within a (integer_box e.1)) m)))) es

-- the hull of a node from the boxes around its own and each of its sides: s holds the node's box and the left side
pub hull_of_node : (s hull : IntegerBox) (left : List Entry) (e : Entry) (right : List Entry) → is_within s (integer_box e.1) ≡ true → AreWithin s left → is_within hull s ≡ true → AreWithin hull right → AreWithin hull (left ++ e ∷ right)
hull_of_node s hull left e right own on_left more on_right =
    let p : Entry → Bool = λ y. not (is_within hull (integer_box y.1)) in
    let before : count p left ≡ 0 = are_within_further hull s left more on_left in
    let here : cond {A = ℕ} (p e) 1 0 ≡ 0 = when (p e) false (rw (within_further hull s (integer_box e.1) more own) refl) in
    let sum = count-round p left e right in
    omega arith

six_further : (c : Bool) (b hull f : IntegerBox) → AreSides hull f → (is_below c b.x1 f.x2 && is_below c f.x1 b.x2 && is_below c b.y1 f.y2 && is_below c f.y1 b.y2 && is_below c b.z1 f.z2 && is_below c f.z1 b.z2) ≡ true → (is_below c b.x1 hull.x2 && is_below c hull.x1 b.x2 && is_below c b.y1 hull.y2 && is_below c hull.y1 b.y2 && is_below c b.z1 hull.z2 && is_below c hull.z1 b.z2) ≡ true
six_further c b hull f s =
    both_follow _ (is_below c f.z1 b.z2) _ (is_below c hull.z1 b.z2)
    (both_follow _ (is_below c b.z1 f.z2) _ (is_below c b.z1 hull.z2)
    (both_follow _ (is_below c f.y1 b.y2) _ (is_below c hull.y1 b.y2)
    (both_follow _ (is_below c b.y1 f.y2) _ (is_below c b.y1 hull.y2)
    (both_follow (is_below c b.x1 f.x2) (is_below c f.x1 b.x2) (is_below c b.x1 hull.x2) (is_below c hull.x1 b.x2)
    (λ h. below_farther c b.x1 f.x2 hull.x2 h s.x2) (λ h. below_nearer c hull.x1 f.x1 b.x2 s.x1 h))
    (λ h. below_farther c b.y1 f.y2 hull.y2 h s.y2))
    (λ h. below_nearer c hull.y1 f.y1 b.y2 s.y1 h))
    (λ h. below_farther c b.z1 f.z2 hull.z2 h s.z2))
    (λ h. below_nearer c hull.z1 f.z1 b.z2 s.z1 h)

-- what meets a box meets each box around it
meets_further : (c : Bool) (b hull f : IntegerBox) → is_within hull f ≡ true → do_meet c b f ≡ true → do_meet c b hull ≡ true
meets_further true b hull f h m = six_further true b hull f (sides hull f h) m
meets_further false b hull f h m = six_further false b hull f (sides hull f h) m

-- no box meets where the hull does not
pub none_in_hull : (c : Bool) (b hull : IntegerBox) (es : List Entry) → AreWithin hull es → do_meet c b hull ≡ false → count (meets c b) es ≡ 0
none_in_hull c b hull es within apart = count-none (meets c b) (λ (e : Entry). not (is_within hull (integer_box e.1))) (λ e m. is_not (is_within hull (integer_box e.1)) (λ k. absurd (false_not_true _ (meets_further c b hull (integer_box e.1) k m) apart))) es within
