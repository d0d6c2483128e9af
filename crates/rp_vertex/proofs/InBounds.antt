-- Vertices lie in the closed cube, and their boxes are within its bounds.
use Rattle.std.proofs.Common.{◌≡◌, ℤ, pos, neg_ℤ, ◌*ℤ◌, ◌≤ℤ◌, ◌<ℤ◌, true, ◌&&◌, List, [], ◌∷◌, refl, sym, ap, ◌∙◌, subst, arith}
use Rattle.std.specs.Prelude.{int_le}
use Rattle.std.specs.Int.{int_min, int_max}
use Rattle.std.proofs.lemmas.Int.{ints, clamps}
use Rattle.rp_algebra.specs.Integer.{floor_of, ceiling_of}
use Rattle.rp_algebra.specs.Within.{IsWithin}
use Rattle.rp_algebra.proofs.IntLaws.{pos_of_mul_pos_ℤ, nonneg_of_pos_ℤ, le_of_mul_le_left_ℤ, mul_le_mul_left_ℤ, mul_comm_ℤ, neg_mul_ℤ}
use Rattle.rp_algebra.proofs.Listed.{Listed, first, later}
use Rattle.rp_algebra.proofs.Numbers.{opposite_within}
use Rattle.rp_algebra.proofs.Reify.{by_ring_at, reify}
use Rattle.rp_algebra.proofs.Rounding.{floor_below, floor_greatest}
use Rattle.rp_algebra.proofs.Tests.{and_first, and_second, and_true, at_most_is, at_most_true}
use Rattle.rp_geometry.specs.Geometry.{RationalPoint, HalfSpace, IntegerBox, IsPoint, half_edge, cube_bound, with_cube, is_within_bound, is_box_in_bounds, is_in_closed_range, is_closed_cube_point, all_nonnegative, reduced_point}
use Rattle.rp_geometry.specs.parts.LeastBox.{box_of_vertex, box_of_vertices, box_union}
use Rattle.rp_geometry.specs.searches.Vertex.{any_point, vertices}
use Rattle.rp_geometry.proofs.Rounded.{opposite_range, floor_within}
use Rattle.rp_convex.proofs.Lowest.{reduced_is}
use Rattle.rp_convex.proofs.Vertex.{weak_is}
use Rattle.rp_convex.proofs.WeakPoint.{listed_is_vertex}
use Rattle.rp_convex.proofs.InCube.{weak_in_cube}
use Rattle.rp_vertex.specs.Joined.{HasCube}

-- ---- the closed cube

-- a point at which no half-space of a list with the cube's is negative lies in the closed cube
pub passed_in_cube : (system : List HalfSpace) (p : RationalPoint) → HasCube system → IsPoint p → all_nonnegative system p ≡ true → is_closed_cube_point p ≡ true
passed_in_cube system p (cell, e) w t = weak_in_cube cell p (weak_is (with_cube cell) p w (ap (λ (hs : List HalfSpace). all_nonnegative hs p) (sym e) ∙ t))

-- ---- bounds of boxes

-- the six numbers of a box are from -M to M
record IsSmallBox (b : IntegerBox) : Type 0 where
  x1 : IsWithin half_edge b.x1
  y1 : IsWithin half_edge b.y1
  z1 : IsWithin half_edge b.z1
  x2 : IsWithin half_edge b.x2
  y2 : IsWithin half_edge b.y2
  z2 : IsWithin half_edge b.z2

-- the ceiling of a coordinate from -M to M is from -M to M
ceiling_within : (v w : ℤ) → pos 0 <ℤ w → is_in_closed_range v w ≡ true → IsWithin half_edge (ceiling_of v w)
ceiling_within v w hw e = opposite_within half_edge (floor_of (neg_ℤ v) w) (floor_within (neg_ℤ v) w hw (opposite_range v w e))

-- the box of a point of the closed cube
small_vertex : (p : RationalPoint) → IsPoint p → is_closed_cube_point p ≡ true → IsSmallBox (box_of_vertex p)
small_vertex p w e =
    let first_two = and_first (is_in_closed_range p.x p.w && is_in_closed_range p.y p.w) (is_in_closed_range p.z p.w) e in
    let x = and_first (is_in_closed_range p.x p.w) (is_in_closed_range p.y p.w) first_two in
    let y = and_second (is_in_closed_range p.x p.w) (is_in_closed_range p.y p.w) first_two in
    let z = and_second (is_in_closed_range p.x p.w && is_in_closed_range p.y p.w) (is_in_closed_range p.z p.w) e in
    record {
      x1 = floor_within p.x p.w w x;
      y1 = floor_within p.y p.w w y;
      z1 = floor_within p.z p.w w z;
      x2 = ceiling_within p.x p.w w x;
      y2 = ceiling_within p.y p.w w y;
      z2 = ceiling_within p.z p.w w z;
    }

-- the lesser of two small numbers
small_min : (a b : ℤ) → IsWithin half_edge a → IsWithin half_edge b → IsWithin half_edge (int_min a b)
small_min a b h k = let i = h.abs_le in let j = k.abs_le in record { abs_le = omega (arith, ints, clamps) }

-- the greater of two small numbers
small_max : (a b : ℤ) → IsWithin half_edge a → IsWithin half_edge b → IsWithin half_edge (int_max a b)
small_max a b h k = let i = h.abs_le in let j = k.abs_le in record { abs_le = omega (arith, ints, clamps) }

-- the least box that holds two small boxes
small_union : (b e : IntegerBox) → IsSmallBox b → IsSmallBox e → IsSmallBox (box_union b e)
small_union b e h k = record {
  x1 = small_min b.x1 e.x1 h.x1 k.x1;
  y1 = small_min b.y1 e.y1 h.y1 k.y1;
  z1 = small_min b.z1 e.z1 h.z1 k.z1;
  x2 = small_max b.x2 e.x2 h.x2 k.x2;
  y2 = small_max b.y2 e.y2 h.y2 k.y2;
  z2 = small_max b.z2 e.z2 h.z2 k.z2;
}

-- the least coordinate of the cube
edge_within : IsWithin half_edge (neg_ℤ cube_bound)
edge_within = record { abs_le = omega arith }

-- the greatest one
far_edge_within : IsWithin half_edge cube_bound
far_edge_within = record { abs_le = omega arith }

-- the box of points of the closed cube
small_all : (ps : List RationalPoint) → ((v : RationalPoint) → Listed v ps → IsSmallBox (box_of_vertex v)) → IsSmallBox (box_of_vertices ps)
small_all [] h = record { x1 = edge_within; y1 = edge_within; z1 = edge_within; x2 = far_edge_within; y2 = far_edge_within; z2 = far_edge_within }
small_all (p ∷ []) h = h p first
small_all (p ∷ q ∷ ps) h = small_union (box_of_vertex p) (box_of_vertices (q ∷ ps)) (h p first) (small_all (q ∷ ps) (λ v l. h v (later l)))

-- a small number passes the test of bounds
within_true : (v : ℤ) → IsWithin half_edge v → is_within_bound cube_bound v ≡ true
within_true v h =
    let k = h.abs_le in
    and_true (int_le (neg_ℤ cube_bound) v) (int_le v cube_bound)
    (at_most_true (neg_ℤ cube_bound) v (omega (arith, ints)))
    (at_most_true v cube_bound (omega (arith, ints)))

-- a small box passes the test of bounds
small_true : (b : IntegerBox) → IsSmallBox b → is_box_in_bounds b ≡ true
small_true b h = rw (within_true b.x1 h.x1, within_true b.y1 h.y1, within_true b.z1 h.z1, within_true b.x2 h.x2, within_true b.y2 h.y2, within_true b.z2 h.z2) refl

-- the box of a cell's vertices keeps the bounds
pub vertices_in_bounds : (cell : List HalfSpace) → is_box_in_bounds (box_of_vertices (vertices cell)) ≡ true
unfolding vertices
vertices_in_bounds cell =
    small_true (box_of_vertices (vertices cell)) (small_all (vertices cell) (λ v l.
    let k = (listed_is_vertex any_point (with_cube cell) v l).weak in
    small_vertex v k.point (weak_in_cube cell v k)))

-- ---- lowest terms

-- a multiple of both sides
moved : (c w k : ℤ) → c *ℤ (w *ℤ k) ≡ k *ℤ (c *ℤ w)
moved c w k = by_ring_at (c ∷ w ∷ k ∷ []) (search reify depth 40 fits 100000) tt

-- a bound of a quotient from below is one of its multiple
scaled_over : (c v w k : ℤ) → pos 0 <ℤ k → (c *ℤ w) ≤ℤ v → (c *ℤ (w *ℤ k)) ≤ℤ (v *ℤ k)
scaled_over c v w k hk h = subst (λ (t : ℤ). t ≤ℤ (v *ℤ k)) (sym (moved c w k)) (subst (λ (t : ℤ). (k *ℤ (c *ℤ w)) ≤ℤ t) (mul_comm_ℤ k v) (mul_le_mul_left_ℤ k (c *ℤ w) v (nonneg_of_pos_ℤ k hk) h))

-- and one from above
scaled_under : (c v w k : ℤ) → pos 0 <ℤ k → v ≤ℤ (c *ℤ w) → (v *ℤ k) ≤ℤ (c *ℤ (w *ℤ k))
scaled_under c v w k hk h = subst (λ (t : ℤ). (v *ℤ k) ≤ℤ t) (sym (moved c w k)) (subst (λ (t : ℤ). t ≤ℤ (k *ℤ (c *ℤ w))) (mul_comm_ℤ k v) (mul_le_mul_left_ℤ k v (c *ℤ w) (nonneg_of_pos_ℤ k hk) h))

-- a quotient of the closed range stays there as a multiple
range_scaled : (v w k : ℤ) → pos 0 <ℤ k → is_in_closed_range v w ≡ true → is_in_closed_range (v *ℤ k) (w *ℤ k) ≡ true
range_scaled v w k hk e =
    let m = neg_ℤ cube_bound in
    let n = cube_bound in
    and_true (int_le (m *ℤ (w *ℤ k)) (v *ℤ k)) (int_le (v *ℤ k) (n *ℤ (w *ℤ k)))
    (at_most_true (m *ℤ (w *ℤ k)) (v *ℤ k) (scaled_over m v w k hk (at_most_is (m *ℤ w) v (and_first (int_le (m *ℤ w) v) (int_le v (n *ℤ w)) e))))
    (at_most_true (v *ℤ k) (n *ℤ (w *ℤ k)) (scaled_under n v w k hk (at_most_is v (n *ℤ w) (and_second (int_le (m *ℤ w) v) (int_le v (n *ℤ w)) e))))

-- the floor of a quotient is that of its multiple
floor_scaled : (v w k : ℤ) → pos 0 <ℤ w → pos 0 <ℤ k → pos 0 <ℤ (w *ℤ k) → floor_of (v *ℤ k) (w *ℤ k) ≡ floor_of v w
floor_scaled v w k hw hk hwk =
    let f = floor_of (v *ℤ k) (w *ℤ k) in
    let g = floor_of v w in
    both f g (floor_greatest f v w hw (less f v w k hk (floor_below (v *ℤ k) (w *ℤ k) hwk))) (floor_greatest g (v *ℤ k) (w *ℤ k) hwk (scaled_over g v w k hk (floor_below v w hw)))
  where
    both : (a b : ℤ) → a ≤ℤ b → b ≤ℤ a → a ≡ b
    both a b h k = omega (arith, ints)

    less : (c v w k : ℤ) → pos 0 <ℤ k → (c *ℤ (w *ℤ k)) ≤ℤ (v *ℤ k) → (c *ℤ w) ≤ℤ v
    less c v w k hk h = le_of_mul_le_left_ℤ k (c *ℤ w) v hk (subst (λ (t : ℤ). t ≤ℤ (k *ℤ v)) (moved c w k) (subst (λ (t : ℤ). (c *ℤ (w *ℤ k)) ≤ℤ t) (mul_comm_ℤ v k) h))

-- the ceiling too
ceiling_scaled : (v w k : ℤ) → pos 0 <ℤ w → pos 0 <ℤ k → pos 0 <ℤ (w *ℤ k) → ceiling_of (v *ℤ k) (w *ℤ k) ≡ ceiling_of v w
ceiling_scaled v w k hw hk hwk = ap neg_ℤ (ap (λ (t : ℤ). floor_of t (w *ℤ k)) (sym (neg_mul_ℤ v k)) ∙ floor_scaled (neg_ℤ v) w k hw hk hwk)

-- the box of a vertex is the same before and after it is put into lowest terms
pub box_of_reduced : (p : RationalPoint) → IsPoint p → box_of_vertex p ≡ box_of_vertex (reduced_point p)
box_of_reduced p w =
    let r = reduced_point p in
    let m = reduced_is p w in
    let k = m.multiple.factor in
    let wk : pos 0 <ℤ (r.w *ℤ k) = subst (λ (t : ℤ). pos 0 <ℤ t) (sym m.multiple.w) w in
    let hk = pos_of_mul_pos_ℤ r.w k (nonneg_of_pos_ℤ r.w m.point) wk in
    let x = sym m.multiple.x in
    let y = sym m.multiple.y in
    let z = sym m.multiple.z in
    let u = sym m.multiple.w in
    λ i. record {
      x1 = ((λ j. floor_of (x j) (u j)) ∙ floor_scaled r.x r.w k m.point hk wk) i;
      y1 = ((λ j. floor_of (y j) (u j)) ∙ floor_scaled r.y r.w k m.point hk wk) i;
      z1 = ((λ j. floor_of (z j) (u j)) ∙ floor_scaled r.z r.w k m.point hk wk) i;
      x2 = ((λ j. ceiling_of (x j) (u j)) ∙ ceiling_scaled r.x r.w k m.point hk wk) i;
      y2 = ((λ j. ceiling_of (y j) (u j)) ∙ ceiling_scaled r.y r.w k m.point hk wk) i;
      z2 = ((λ j. ceiling_of (z j) (u j)) ∙ ceiling_scaled r.z r.w k m.point hk wk) i;
    }

-- what lies in the closed cube in lowest terms lies there before
pub in_cube_before : (p : RationalPoint) → IsPoint p → is_closed_cube_point (reduced_point p) ≡ true → is_closed_cube_point p ≡ true
in_cube_before p w e =
    let r = reduced_point p in
    let m = reduced_is p w in
    let k = m.multiple.factor in
    let wk : pos 0 <ℤ (r.w *ℤ k) = subst (λ (t : ℤ). pos 0 <ℤ t) (sym m.multiple.w) w in
    let hk = pos_of_mul_pos_ℤ r.w k (nonneg_of_pos_ℤ r.w m.point) wk in
    let first_two = and_first (is_in_closed_range r.x r.w && is_in_closed_range r.y r.w) (is_in_closed_range r.z r.w) e in
    let x = range_scaled r.x r.w k hk (and_first (is_in_closed_range r.x r.w) (is_in_closed_range r.y r.w) first_two) in
    let y = range_scaled r.y r.w k hk (and_second (is_in_closed_range r.x r.w) (is_in_closed_range r.y r.w) first_two) in
    let z = range_scaled r.z r.w k hk (and_second (is_in_closed_range r.x r.w && is_in_closed_range r.y r.w) (is_in_closed_range r.z r.w) e) in
    and_true (is_in_closed_range p.x p.w && is_in_closed_range p.y p.w) (is_in_closed_range p.z p.w)
    (and_true (is_in_closed_range p.x p.w) (is_in_closed_range p.y p.w)
    ((λ i. is_in_closed_range (sym m.multiple.x i) (sym m.multiple.w i)) ∙ x)
    ((λ i. is_in_closed_range (sym m.multiple.y i) (sym m.multiple.w i)) ∙ y))
    ((λ i. is_in_closed_range (sym m.multiple.z i) (sym m.multiple.w i)) ∙ z)

-- a vertex of a cell lies in the closed cube
pub vertex_in_cube : (cell : List HalfSpace) (v : RationalPoint) → Listed v (vertices cell) → is_closed_cube_point v ≡ true
unfolding vertices
vertex_in_cube cell v l = weak_in_cube cell v (listed_is_vertex any_point (with_cube cell) v l).weak
