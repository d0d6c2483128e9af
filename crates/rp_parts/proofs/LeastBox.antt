-- The box of a cell's vertices is the least whole box round its members.
use Rattle.std.proofs.Common.{◌≡◌, ℕ, ℤ, pos, negsuc, neg_ℤ, ◌+ℤ◌, ◌-ℤ◌, ◌*ℤ◌, ◌≤ℤ◌, ◌<ℤ◌, List, [], ◌∷◌, subst, arith}
use Rattle.std.proofs.lemmas.Int.{ints}
use Rattle.rp_algebra.specs.Integer.{floor_of, ceiling_of}
use Rattle.rp_algebra.proofs.IntLaws.{linear, signs, nonneg_of_pos_ℤ}
use Rattle.rp_algebra.proofs.Reify.{by_ring_at, le_by_multiple, lt_by_multiple, reify}
use Rattle.rp_algebra.proofs.Listed.{Listed}
use Rattle.rp_algebra.proofs.Rounding.{floor_below, floor_greatest, ceiling_above, ceiling_least, never_below}
use Rattle.rp_geometry.specs.Geometry.{RationalPoint, HalfSpace, IntegerBox, IsPoint, half_space_of, side_value, with_cube}
use Rattle.rp_geometry.specs.searches.Vertex.{any_point, vertices}
use Rattle.rp_geometry.specs.parts.LeastBox.{BoxHoldsCell, IsInBox, IsBoxWithin, least_box, box_of_vertex}
use Rattle.rp_geometry.specs.laws.PartLaws.{LeastBoxIsLeast}
use Rattle.rp_convex.proofs.Move.{IsWeak}
use Rattle.rp_convex.proofs.Inside.{MovesInside, moves_from}
use Rattle.rp_convex.proofs.Vertex.{GreatVertex, great_vertex}
use Rattle.rp_convex.proofs.WeakPoint.{listed_is_vertex}
use Rattle.rp_convex.proofs.Held.{member_is_weak, in_cell_is_member, member_in_cell}
use Rattle.rp_convex.proofs.Approach.{near, near_is_member}
use Rattle.rp_parts.proofs.Boxes.{vertex_within, vertices_within}

-- ---- values of the functions x, y, z and their opposites, across two points

-- the value of x
value_x : (x y z w : ℤ) → pos 1 *ℤ x +ℤ pos 0 *ℤ y +ℤ pos 0 *ℤ z +ℤ pos 0 *ℤ w ≡ x
value_x x y z w = by_ring_at (x ∷ y ∷ z ∷ w ∷ []) (search reify depth 40 fits 100000) tt

-- the value of y
value_y : (x y z w : ℤ) → pos 0 *ℤ x +ℤ pos 1 *ℤ y +ℤ pos 0 *ℤ z +ℤ pos 0 *ℤ w ≡ y
value_y x y z w = by_ring_at (x ∷ y ∷ z ∷ w ∷ []) (search reify depth 40 fits 100000) tt

-- the value of z
value_z : (x y z w : ℤ) → pos 0 *ℤ x +ℤ pos 0 *ℤ y +ℤ pos 1 *ℤ z +ℤ pos 0 *ℤ w ≡ z
value_z x y z w = by_ring_at (x ∷ y ∷ z ∷ w ∷ []) (search reify depth 40 fits 100000) tt

-- the value of -x
minus_x : (x y z w : ℤ) → negsuc 0 *ℤ x +ℤ pos 0 *ℤ y +ℤ pos 0 *ℤ z +ℤ pos 0 *ℤ w ≡ neg_ℤ x
minus_x x y z w = by_ring_at (x ∷ y ∷ z ∷ w ∷ []) (search reify depth 40 fits 100000) tt

-- the value of -y
minus_y : (x y z w : ℤ) → pos 0 *ℤ x +ℤ negsuc 0 *ℤ y +ℤ pos 0 *ℤ z +ℤ pos 0 *ℤ w ≡ neg_ℤ y
minus_y x y z w = by_ring_at (x ∷ y ∷ z ∷ w ∷ []) (search reify depth 40 fits 100000) tt

-- the value of -z
minus_z : (x y z w : ℤ) → pos 0 *ℤ x +ℤ pos 0 *ℤ y +ℤ negsuc 0 *ℤ z +ℤ pos 0 *ℤ w ≡ neg_ℤ z
minus_z x y z w = by_ring_at (x ∷ y ∷ z ∷ w ∷ []) (search reify depth 40 fits 100000) tt

-- coordinates are in the order of the values u and v of a function at two points of the weights w and s
upward : (u v x y w s : ℤ) → u ≡ x → v ≡ y → (u *ℤ s) ≤ℤ (v *ℤ w) → (x *ℤ s) ≤ℤ (y *ℤ w)
upward u v x y w s e f h = subst (λ (k : ℤ). (k *ℤ s) ≤ℤ (y *ℤ w)) e (subst (λ (k : ℤ). (u *ℤ s) ≤ℤ (k *ℤ w)) f h)

-- and in the other order for the opposite function
downward : (u v x y w s : ℤ) → u ≡ neg_ℤ x → v ≡ neg_ℤ y → (u *ℤ s) ≤ℤ (v *ℤ w) → (y *ℤ w) ≤ℤ (x *ℤ s)
downward u v x y w s e f h =
    let k = upward u v (neg_ℤ x) (neg_ℤ y) w s e f h in
    let a : neg_ℤ x *ℤ s ≡ neg_ℤ (x *ℤ s) = by_ring_at (x ∷ s ∷ []) (search reify depth 40 fits 100000) tt in
    let b : neg_ℤ y *ℤ w ≡ neg_ℤ (y *ℤ w) = by_ring_at (y ∷ w ∷ []) (search reify depth 40 fits 100000) tt in
    omega (arith, linear, k, a, b)

-- ---- members are in the box

-- v/s is at least the bound b, and the coordinate x/w is at least v/s
from_below : (b v s x w : ℤ) → pos 0 <ℤ s → pos 0 <ℤ w → (b *ℤ s) ≤ℤ v → (v *ℤ w) ≤ℤ (x *ℤ s) → (b *ℤ w) ≤ℤ x
from_below b v s x w hs hw h k =
    let d : pos 0 ≤ℤ (v -ℤ b *ℤ s) = omega (arith, linear) in
    let e : pos 0 ≤ℤ (x *ℤ s -ℤ v *ℤ w) = omega (arith, linear) in
    let m : pos 0 ≤ℤ (w *ℤ (v -ℤ b *ℤ s) +ℤ (x *ℤ s -ℤ v *ℤ w)) = search signs in
    le_by_multiple (b ∷ v ∷ s ∷ x ∷ w ∷ []) {k = s} hs m (search reify depth 40 fits 100000) tt

-- v/s is at most the bound b, the moved coordinate y/t is at most v/s, and x/w is below it
from_above : (b v s y t x w : ℤ) → pos 0 <ℤ s → pos 0 <ℤ t → pos 0 <ℤ w → v ≤ℤ (b *ℤ s) → (y *ℤ s) ≤ℤ (v *ℤ t) → (x *ℤ t) <ℤ (y *ℤ w) → x <ℤ (b *ℤ w)
from_above b v s y t x w hs ht hw h k l =
    let d : pos 0 ≤ℤ (b *ℤ s -ℤ v) = omega (arith, linear) in
    let e : pos 0 ≤ℤ (v *ℤ t -ℤ y *ℤ s) = omega (arith, linear) in
    let f : pos 0 <ℤ (y *ℤ w -ℤ x *ℤ t) = omega (arith, linear) in
    let m : pos 0 <ℤ (t *ℤ w *ℤ (b *ℤ s -ℤ v) +ℤ w *ℤ (v *ℤ t -ℤ y *ℤ s) +ℤ s *ℤ (y *ℤ w -ℤ x *ℤ t)) = search signs depth 12 fits 5000 in
    let st : pos 0 ≤ℤ (s *ℤ t) = search signs in
    lt_by_multiple (b ∷ v ∷ s ∷ y ∷ t ∷ x ∷ w ∷ []) {k = s *ℤ t} st m (search reify depth 40 fits 100000) tt

-- a bound at most the floor is a bound from below
under_floor : (b v s : ℤ) → pos 0 <ℤ s → b ≤ℤ floor_of v s → (b *ℤ s) ≤ℤ v
under_floor b v s hs h = least (floor_of v s) b v s hs h (floor_below v s hs)
  where
    least : (f b v s : ℤ) → pos 0 <ℤ s → b ≤ℤ f → (f *ℤ s) ≤ℤ v → (b *ℤ s) ≤ℤ v
    least f b v s hs h k =
        let d : pos 0 ≤ℤ (f -ℤ b) = omega (arith, linear) in
        let m : pos 0 ≤ℤ (s *ℤ (f -ℤ b)) = search signs in
        let e : s *ℤ (f -ℤ b) ≡ f *ℤ s -ℤ b *ℤ s = by_ring_at (f ∷ b ∷ s ∷ []) (search reify depth 40 fits 100000) tt in
        omega (arith, linear, m, e, k)

-- a bound at least the ceiling is a bound from above
over_ceiling : (b v s : ℤ) → pos 0 <ℤ s → ceiling_of v s ≤ℤ b → v ≤ℤ (b *ℤ s)
over_ceiling b v s hs h = greatest (ceiling_of v s) b v s hs h (ceiling_above v s hs)
  where
    greatest : (f b v s : ℤ) → pos 0 <ℤ s → f ≤ℤ b → v ≤ℤ (f *ℤ s) → v ≤ℤ (b *ℤ s)
    greatest f b v s hs h k =
        let d : pos 0 ≤ℤ (b -ℤ f) = omega (arith, linear) in
        let m : pos 0 ≤ℤ (s *ℤ (b -ℤ f)) = search signs in
        let e : s *ℤ (b -ℤ f) ≡ b *ℤ s -ℤ f *ℤ s = by_ring_at (f ∷ b ∷ s ∷ []) (search reify depth 40 fits 100000) tt in
        omega (arith, linear, m, e, k)

-- a point at which all half-spaces of the list are positive is in the weak system
above_is_weak : (cell : List HalfSpace) (p : RationalPoint) → IsPoint p → ((h : HalfSpace) → Listed h (with_cube cell) → pos 0 <ℤ side_value h p) → IsWeak (with_cube cell) p
above_is_weak cell p w k = record { point = w; sides = λ h l. nonneg_of_pos_ℤ (side_value h p) (k h l) }

-- the vertices are points of the weak system
vertex_is_weak : (cell : List HalfSpace) (v : RationalPoint) → Listed v (vertices cell) → IsWeak (with_cube cell) v
unfolding vertices
vertex_is_weak cell v l = (listed_is_vertex any_point (with_cube cell) v l).weak

-- the functions that give the coordinates: x
abbrev up_x : HalfSpace
up_x = half_space_of (pos 1) (pos 0) (pos 0) (pos 0)

-- y
abbrev up_y : HalfSpace
up_y = half_space_of (pos 0) (pos 1) (pos 0) (pos 0)

-- z
abbrev up_z : HalfSpace
up_z = half_space_of (pos 0) (pos 0) (pos 1) (pos 0)

-- the opposite of x
abbrev down_x : HalfSpace
down_x = half_space_of (negsuc 0) (pos 0) (pos 0) (pos 0)

-- the opposite of y
abbrev down_y : HalfSpace
down_y = half_space_of (pos 0) (negsuc 0) (pos 0) (pos 0)

-- the opposite of z
abbrev down_z : HalfSpace
down_z = half_space_of (pos 0) (pos 0) (negsuc 0) (pos 0)

-- the box of a vertex lies in the box of all
vertex_in : (cell : List HalfSpace) (v : RationalPoint) → Listed v (vertices cell) → IsBoxWithin (box_of_vertex v) (least_box cell)
unfolding least_box
vertex_in cell v l = vertex_within (vertices cell) v l

-- the box of the vertices holds each member
holds_members : (cell : List HalfSpace) (p : RationalPoint) → MovesInside cell p → IsWeak (with_cube cell) p → IsInBox (least_box cell) p
holds_members cell p m weak = record {
  x = (low_x (great_vertex cell down_x p weak), high_x (great_vertex cell up_x m.to moved));
  y = (low_y (great_vertex cell down_y p weak), high_y (great_vertex cell up_y m.to moved));
  z = (low_z (great_vertex cell down_z p weak), high_z (great_vertex cell up_z m.to moved));
}
  where
    moved : IsWeak (with_cube cell) m.to
    moved = above_is_weak cell m.to m.point m.sides

    high_x : GreatVertex cell up_x m.to → p.x <ℤ ((least_box cell).x2 *ℤ p.w)
    high_x g =
        let v = g.vertex in
        from_above (least_box cell).x2 v.x v.w m.to.x m.to.w p.x p.w g.point m.point weak.point (over_ceiling (least_box cell).x2 v.x v.w g.point (vertex_in cell v g.listed).x.1)
        (upward (side_value up_x m.to) (side_value up_x v) m.to.x v.x m.to.w v.w (value_x m.to.x m.to.y m.to.z m.to.w) (value_x v.x v.y v.z v.w) g.as_great) m.x

    high_y : GreatVertex cell up_y m.to → p.y <ℤ ((least_box cell).y2 *ℤ p.w)
    high_y g =
        let v = g.vertex in
        from_above (least_box cell).y2 v.y v.w m.to.y m.to.w p.y p.w g.point m.point weak.point (over_ceiling (least_box cell).y2 v.y v.w g.point (vertex_in cell v g.listed).y.1)
        (upward (side_value up_y m.to) (side_value up_y v) m.to.y v.y m.to.w v.w (value_y m.to.x m.to.y m.to.z m.to.w) (value_y v.x v.y v.z v.w) g.as_great) m.y

    high_z : GreatVertex cell up_z m.to → p.z <ℤ ((least_box cell).z2 *ℤ p.w)
    high_z g =
        let v = g.vertex in
        from_above (least_box cell).z2 v.z v.w m.to.z m.to.w p.z p.w g.point m.point weak.point (over_ceiling (least_box cell).z2 v.z v.w g.point (vertex_in cell v g.listed).z.1)
        (upward (side_value up_z m.to) (side_value up_z v) m.to.z v.z m.to.w v.w (value_z m.to.x m.to.y m.to.z m.to.w) (value_z v.x v.y v.z v.w) g.as_great) m.z

    low_x : GreatVertex cell down_x p → ((least_box cell).x1 *ℤ p.w) ≤ℤ p.x
    low_x g =
        let v = g.vertex in
        from_below (least_box cell).x1 v.x v.w p.x p.w g.point weak.point (under_floor (least_box cell).x1 v.x v.w g.point (vertex_in cell v g.listed).x.0)
        (downward (side_value down_x p) (side_value down_x v) p.x v.x p.w v.w (minus_x p.x p.y p.z p.w) (minus_x v.x v.y v.z v.w) g.as_great)

    low_y : GreatVertex cell down_y p → ((least_box cell).y1 *ℤ p.w) ≤ℤ p.y
    low_y g =
        let v = g.vertex in
        from_below (least_box cell).y1 v.y v.w p.y p.w g.point weak.point (under_floor (least_box cell).y1 v.y v.w g.point (vertex_in cell v g.listed).y.0)
        (downward (side_value down_y p) (side_value down_y v) p.y v.y p.w v.w (minus_y p.x p.y p.z p.w) (minus_y v.x v.y v.z v.w) g.as_great)

    low_z : GreatVertex cell down_z p → ((least_box cell).z1 *ℤ p.w) ≤ℤ p.z
    low_z g =
        let v = g.vertex in
        from_below (least_box cell).z1 v.z v.w p.z p.w g.point weak.point (under_floor (least_box cell).z1 v.z v.w g.point (vertex_in cell v g.listed).z.0)
        (downward (side_value down_z p) (side_value down_z v) p.z v.z p.w v.w (minus_z p.x p.y p.z p.w) (minus_z v.x v.y v.z v.w) g.as_great)

-- ---- the box is the least: members come as near to each vertex as one likes

-- a bound from below of the points near v is a bound of v
bound_below : (b x w y s : ℤ) → ((k : ℕ) → (b *ℤ (w +ℤ pos k *ℤ s)) ≤ℤ (x +ℤ pos k *ℤ y)) → (b *ℤ s) ≤ℤ y
bound_below b x w y s h = up_to (b *ℤ s) y (never_below (x -ℤ b *ℤ w) (y -ℤ b *ℤ s) (λ k. moved_over b x w y s (pos k) (h k)))
  where
    up_to : (u y : ℤ) → pos 0 ≤ℤ (y -ℤ u) → u ≤ℤ y
    up_to u y h = omega (arith, ints)

    moved_over : (b x w y s k : ℤ) → (b *ℤ (w +ℤ k *ℤ s)) ≤ℤ (x +ℤ k *ℤ y) → pos 0 ≤ℤ (x -ℤ b *ℤ w +ℤ k *ℤ (y -ℤ b *ℤ s))
    moved_over b x w y s k h =
        let e : x -ℤ b *ℤ w +ℤ k *ℤ (y -ℤ b *ℤ s) ≡ x +ℤ k *ℤ y -ℤ b *ℤ (w +ℤ k *ℤ s) = by_ring_at (b ∷ x ∷ w ∷ y ∷ s ∷ k ∷ []) (search reify depth 40 fits 100000) tt in
        omega (arith, linear, e, h)

-- and so is a bound from above
bound_above : (b x w y s : ℤ) → ((k : ℕ) → (x +ℤ pos k *ℤ y) <ℤ (b *ℤ (w +ℤ pos k *ℤ s))) → y ≤ℤ (b *ℤ s)
bound_above b x w y s h = up_to y (b *ℤ s) (never_below (b *ℤ w -ℤ x) (b *ℤ s -ℤ y) (λ k. moved_over b x w y s (pos k) (h k)))
  where
    up_to : (u y : ℤ) → pos 0 ≤ℤ (y -ℤ u) → u ≤ℤ y
    up_to u y h = omega (arith, ints)

    moved_over : (b x w y s k : ℤ) → (x +ℤ k *ℤ y) <ℤ (b *ℤ (w +ℤ k *ℤ s)) → pos 0 ≤ℤ (b *ℤ w -ℤ x +ℤ k *ℤ (b *ℤ s -ℤ y))
    moved_over b x w y s k h =
        let e : b *ℤ w -ℤ x +ℤ k *ℤ (b *ℤ s -ℤ y) ≡ b *ℤ (w +ℤ k *ℤ s) -ℤ (x +ℤ k *ℤ y) = by_ring_at (b ∷ x ∷ w ∷ y ∷ s ∷ k ∷ []) (search reify depth 40 fits 100000) tt in
        omega (arith, linear, e, h)

-- the point lies in the box with its boundary
pub record IsInClosedBox (b : IntegerBox) (p : RationalPoint) : Type 0 where
  pub x : ((b.x1 *ℤ p.w) ≤ℤ p.x) × (p.x ≤ℤ (b.x2 *ℤ p.w))
  pub y : ((b.y1 *ℤ p.w) ≤ℤ p.y) × (p.y ≤ℤ (b.y2 *ℤ p.w))
  pub z : ((b.z1 *ℤ p.w) ≤ℤ p.z) × (p.z ≤ℤ (b.z2 *ℤ p.w))

-- a box that holds the members holds the weak system, with its boundary
pub weak_in_box : (cell : List HalfSpace) (e : IntegerBox) (p v : RationalPoint) → BoxHoldsCell e cell → IsPoint p → ((h : HalfSpace) → Listed h (with_cube cell) → pos 0 <ℤ side_value h p) → IsWeak (with_cube cell) v → IsInClosedBox e v
weak_in_box cell e p v box w s weak = record {
  x = (bound_below e.x1 p.x p.w v.x v.w (λ k. (at k).x.0), bound_above e.x2 p.x p.w v.x v.w (λ k. (at k).x.1));
  y = (bound_below e.y1 p.y p.w v.y v.w (λ k. (at k).y.0), bound_above e.y2 p.y p.w v.y v.w (λ k. (at k).y.1));
  z = (bound_below e.z1 p.z p.w v.z v.w (λ k. (at k).z.0), bound_above e.z2 p.z p.w v.z v.w (λ k. (at k).z.1));
}
  where
    at : (k : ℕ) → IsInBox e (near (pos k) p v)
    at k = box (near (pos k) p v) (member_in_cell cell (near (pos k) p v) (near_is_member cell p v k w s weak))

-- a whole box that holds a point with its boundary holds the box of the point
closed_box_rounds : (e : IntegerBox) (v : RationalPoint) → IsPoint v → IsInClosedBox e v → IsBoxWithin (box_of_vertex v) e
closed_box_rounds e v w k = record {
  x = (floor_greatest e.x1 v.x v.w w k.x.0, ceiling_least e.x2 v.x v.w w k.x.1);
  y = (floor_greatest e.y1 v.y v.w w k.y.0, ceiling_least e.y2 v.y v.w w k.y.1);
  z = (floor_greatest e.z1 v.z v.w w k.z.0, ceiling_least e.z2 v.z v.w w k.z.1);
}

-- the box of the vertices lies in each box that holds the cell
least : (cell : List HalfSpace) (e : IntegerBox) (p : RationalPoint) → BoxHoldsCell e cell → MovesInside cell p → IsBoxWithin (least_box cell) e
unfolding least_box
least cell e p box m =
    let g = great_vertex cell up_x m.to (above_is_weak cell m.to m.point m.sides) in
    vertices_within (vertices cell) g.vertex e g.listed (λ v l. let w = vertex_is_weak cell v l in closed_box_rounds e v w.point (weak_in_box cell e m.to v box m.point m.sides w))

-- the law
pub least_box_is_least_spec : LeastBoxIsLeast
least_box_is_least_spec cell k (p, m) = record {
  holds_all = λ q e. let n = in_cell_is_member cell q e in holds_members cell q (moves_from cell q k n) (member_is_weak cell q n);
  least = λ e box. least cell e p box (moves_from cell p k m);
}
