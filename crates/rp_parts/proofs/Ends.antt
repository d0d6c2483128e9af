-- The ends of an edge, and the least y of the corners.
use Rattle.std.proofs.Common.{◌≡◌, ℕ, ◌≤◌, Bool, true, false, cond, ◌&&◌, ℤ, pos, neg_ℤ, ◌-ℤ◌, ◌*ℤ◌, ◌<ℤ◌, ◌≤ℤ◌, nat_abs, List, [], ◌∷◌, refl, arith}
use Rattle.std.specs.Prelude.{int_lt, IsTrue}
use Rattle.std.specs.Int.{int_min}
use Rattle.std.specs.List.{AllByRecursion, list_all}
use Rattle.std.proofs.lemmas.Int.{ints}
use Rattle.rp_algebra.specs.Integer.{is_zero}
use Rattle.rp_algebra.proofs.IntLaws.{abs_mul_le}
use Rattle.rp_algebra.proofs.Rounding.{min_left, min_right}
use Rattle.rp_algebra.proofs.Tests.{and_first, and_second, is_zero_false}
use Rattle.rp_algebra.proofs.Listed.{all_map, list_all_is}
use Rattle.rp_geometry.specs.Geometry.{is_zero_half_space, IsKeptHalfSpace, reduced_half_space, is_within_bound}
use Rattle.rp_geometry.specs.sets.Prism.{Corner, Edge, edges_along, edges_of, left_end, right_end, is_upright, below_line, corner_bound, is_corner_in_bounds, Prism, IsPrism}
use Rattle.rp_geometry.specs.parts.Trapezoid.{least_from, least_y}
use Rattle.rp_geometry.proofs.InLowestTerms.{size_within}
use Rattle.rp_geometry.proofs.Complement.{size_of_opposite}
use Rattle.rp_parts.proofs.Reduced.{reduced_is_kept}

-- ---- corners

-- a corner within its bounds
pub record IsNearby (c : Corner) : Type 0 where
  pub x : nat_abs c.x ≤ 8388608
  pub y : nat_abs c.y ≤ 8388608

-- what the test of a corner says
pub nearby : (c : Corner) → is_corner_in_bounds c ≡ true → IsNearby c
nearby c e = record {
  x = size_within 8388608 c.x (and_first (is_within_bound corner_bound c.x) (is_within_bound corner_bound c.y) e);
  y = size_within 8388608 c.y (and_second (is_within_bound corner_bound c.x) (is_within_bound corner_bound c.y) e);
}

-- what is true of all corners is true of both ends of all edges
pub both_ends : (G : Corner → Type 0) (cs : List Corner) → AllByRecursion G cs → AllByRecursion (λ e. G e.start × G e.end) (edges_of cs)
both_ends G [] h = tt
both_ends G (c ∷ cs) h = along c cs h.0 h.1
  where
    along : (d : Corner) (ds : List Corner) → G d → AllByRecursion G ds → AllByRecursion (λ e. G e.start × G e.end) (edges_along c d ds)
    along d [] g gs = ((g, h.0), tt)
    along d (k ∷ ds) g gs = ((g, gs.0), along k ds gs.0 gs.1)

-- ---- the least y

-- the least y is at most each
least_below : (y : ℤ) (cs : List Corner) → (least_from y cs ≤ℤ y) × AllByRecursion (λ c. least_from y cs ≤ℤ c.y) cs
least_below y [] = (omega (arith, ints), tt)
least_below y (c ∷ cs) =
    let rest = least_below (int_min y c.y) cs in
    let least : least_from (int_min y c.y) cs ≤ℤ int_min y c.y = rest.0 in
    (omega (arith, ints, least, min_left y c.y), (omega (arith, ints, least, min_right y c.y), rest.1))

-- the least of two is one of them
least_size : (u v : ℤ) (n : ℕ) → nat_abs u ≤ n → nat_abs v ≤ n → nat_abs (int_min u v) ≤ n
least_size u v n a b = by_test (int_lt v u)
  where
    by_test : (t : Bool) → nat_abs (cond t v u) ≤ n
    by_test true = b
    by_test false = a

-- the least y keeps the bounds
least_nearby : (y : ℤ) (cs : List Corner) → nat_abs y ≤ 8388608 → AllByRecursion IsNearby cs → nat_abs (least_from y cs) ≤ 8388608
least_nearby y [] h n = h
least_nearby y (c ∷ cs) h n = least_nearby (int_min y c.y) cs (least_size y c.y 8388608 h n.0.y) n.1

-- a corner within its bounds and not below a y
pub record IsAtLeast (y : ℤ) (c : Corner) : Type 0 where
  pub near : IsNearby c
  pub above : y ≤ℤ c.y

-- corners within their bounds
all_nearby : (cs : List Corner) → IsTrue (list_all is_corner_in_bounds cs) → AllByRecursion IsNearby cs
all_nearby cs h = list_all_is is_corner_in_bounds IsNearby nearby cs h

-- two facts of all corners
both_facts : (G H : Corner → Type 0) (cs : List Corner) → AllByRecursion G cs → AllByRecursion H cs → AllByRecursion (λ c. G c × H c) cs
both_facts G H [] g h = tt
both_facts G H (c ∷ cs) g h = ((g.0, h.0), both_facts G H cs g.1 h.1)

-- all corners are at least at the least y
pub all_at_least : (cs : List Corner) → IsTrue (list_all is_corner_in_bounds cs) → AllByRecursion (IsAtLeast (least_y cs)) cs
all_at_least [] h = tt
all_at_least (c ∷ cs) h =
    let n = all_nearby (c ∷ cs) h in
    let b = least_below c.y cs in
    (record { near = n.0; above = b.0 }, all_map (λ d. IsNearby d × (least_from c.y cs ≤ℤ d.y)) (IsAtLeast (least_from c.y cs)) (λ d k. record { near = k.0; above = k.1 }) cs (both_facts IsNearby (λ d. least_from c.y cs ≤ℤ d.y) cs n.1 b.1))

-- the least y of a prism keeps the bounds
pub least_is_near : (cs : List Corner) → IsTrue (list_all is_corner_in_bounds cs) → nat_abs (least_y cs) ≤ 8388608
least_is_near [] h = omega (arith, ints)
least_is_near (c ∷ cs) h = let n = all_nearby (c ∷ cs) h in least_nearby c.y cs n.0.y n.1

-- ---- the ends of an edge

-- both ends of an edge are within bounds
abbrev pub AreNear : Edge → Type 0
AreNear e = IsNearby e.start × IsNearby e.end

-- those of all edges of a prism
pub edges_near : (s : Prism) → IsPrism s → AllByRecursion AreNear (edges_of s.corners)
edges_near s k = both_ends IsNearby s.corners (all_nearby s.corners k.corners)

-- the left end and the right end: one is left of the other
pub record AreEnds (G : Corner → Type 0) (l r : Corner) : Type 0 where
  pub left : G l
  pub right : G r
  pub order : l.x <ℤ r.x

-- the ends of an edge with two x
pub ends_of : (G : Corner → Type 0) (e : Edge) → G e.start → G e.end → is_upright e ≡ false → AreEnds G (left_end e) (right_end e)
ends_of G e s t slanted = by_order (int_lt e.start.x e.end.x) refl
  where
    by_order : (b : Bool) → int_lt e.start.x e.end.x ≡ b → AreEnds G (cond b e.start e.end) (cond b e.end e.start)
    by_order true o = record { left = s; right = t; order = grind (arith, ints) }
    by_order false o = record { left = t; right = s; order = grind (arith, ints) }

-- ---- the half-space below a line

-- the difference of two numbers within bounds
difference_size : (u v : ℤ) → nat_abs u ≤ 8388608 → nat_abs v ≤ 8388608 → nat_abs (u -ℤ v) ≤ 16777216
difference_size u v a b = omega (arith, ints)

-- a half-space with a number that is not 0
second_not_zero : (a b c d : Bool) → b ≡ false → (((a && b) && c) && d) ≡ false
second_not_zero true b c d e = λ i. (e i && c) && d
second_not_zero false b c d e = refl

-- it is a half-space
pub line_not_zero : (l r : Corner) → l.x <ℤ r.x → is_zero_half_space (below_line l r) ≡ false
line_not_zero l r h =
    second_not_zero (is_zero (r.y -ℤ l.y)) (is_zero (neg_ℤ (r.x -ℤ l.x))) (is_zero (pos 0)) (is_zero ((r.x -ℤ l.x) *ℤ l.y -ℤ (r.y -ℤ l.y) *ℤ l.x))
    (is_zero_false (neg_ℤ (r.x -ℤ l.x)) (λ e. omega (arith, ints, e, h)))

-- the sizes of its numbers
pub record IsSmallLine (l r : Corner) : Type 0 where
  pub a : nat_abs (r.y -ℤ l.y) ≤ 16777216
  pub b : nat_abs (neg_ℤ (r.x -ℤ l.x)) ≤ 16777216
  pub d : nat_abs ((r.x -ℤ l.x) *ℤ l.y -ℤ (r.y -ℤ l.y) *ℤ l.x) ≤ 844424930131968

-- they keep the bounds of half-spaces
pub line_is_small : (l r : Corner) → AreEnds IsNearby l r → IsSmallLine l r
line_is_small l r n =
    let dx = difference_size r.x l.x n.right.x n.left.x in
    let dy = difference_size r.y l.y n.right.y n.left.y in
    record {
      a = dy;
      b = size_of_opposite (r.x -ℤ l.x) 16777216 dx;
      d = offset ((r.x -ℤ l.x) *ℤ l.y) ((r.y -ℤ l.y) *ℤ l.x) (abs_mul_le (r.x -ℤ l.x) l.y 16777216 8388608 dx n.left.y) (abs_mul_le (r.y -ℤ l.y) l.x 16777216 8388608 dy n.left.x);
    }
  where
    offset : (u v : ℤ) → nat_abs u ≤ 140737488355328 → nat_abs v ≤ 140737488355328 → nat_abs (u -ℤ v) ≤ 844424930131968
    offset u v a b = omega (arith, ints)

-- it is kept in lowest terms
pub line_is_kept : (l r : Corner) → AreEnds IsNearby l r → IsKeptHalfSpace (reduced_half_space (below_line l r))
line_is_kept l r n = let m = line_is_small l r n in reduced_is_kept (below_line l r) m.a m.b (omega (arith, ints)) m.d (line_not_zero l r n.order)
