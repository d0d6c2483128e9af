-- The vertices of a cell with one more half-space, by those of the cell and the edges between them.
use Rattle.std.proofs.Common.{◌≡◌, ℤ, pos, neg_ℤ, ◌+ℤ◌, ◌-ℤ◌, ◌*ℤ◌, ◌≤ℤ◌, ◌<ℤ◌, ◌⊎◌, inl, inr, ⊎_elim, true, false, List, [], ◌∷◌, ◌++◌, refl, sym, ap, ◌∙◌, subst, arith}
use Rattle.std.specs.Prelude.{Some, is_some}
use Rattle.std.proofs.lemmas.Int.{ints}
use Rattle.rp_algebra.specs.Integer.{is_zero}
use Rattle.rp_algebra.proofs.IntLaws.{linear, signs, trichotomy_ℤ}
use Rattle.rp_algebra.proofs.Listed.{Listed, first, later, listed_left, listed_right, listed_cases}
use Rattle.rp_algebra.proofs.Numbers.{neg_zero, zero_over, nonneg_of_zero, neg_positive}
use Rattle.rp_algebra.proofs.Reify.{by_ring_at, eq_by_ring, eq_by_multiple, zeros, reify}
use Rattle.rp_algebra.proofs.Tests.{and_first, and_second, and_true, zero_is, is_zero_true, false_unless, false_not_true}
use Rattle.rp_geometry.specs.Geometry.{RationalPoint, HalfSpace, IsPoint, SamePlace, side_value, with_cube, cube_half_spaces}
use Rattle.rp_geometry.specs.searches.Vertex.{det2, meeting_weight, meeting_point}
use Rattle.rp_convex.proofs.Corner.{along_line, line_in_first, line_in_second, line_change, along-turned, turned_moving}
use Rattle.rp_convex.proofs.Meeting.{meets}
use Rattle.rp_convex.proofs.Move.{Direction, along, turned, IsMoving, IsWeak}
use Rattle.rp_convex.proofs.OnlyOne.{IsStill, moving_or_still}
use Rattle.rp_convex.proofs.Places.{same_side, nonnegative_same}
use Rattle.rp_convex.proofs.Triples.{IsSymmetric}
use Rattle.rp_convex.proofs.Vertex.{AreTightAt, tight_symmetric, with_cube_bounded}
use Rattle.rp_convex.specs.Edges.{are_parallel, PassesThroughBoth, IsCrossedEdge, IsCrossing, IsKeptVertex, VerticesFollowEdges, CrossedEdgesMeet, CrossingKeepsPlanes}
use Rattle.rp_convex.proofs.Between.{AreApart, crossing, crossing_weak, crossing_through, crossing_first, crossing_second, meeting_at_crossing}
use Rattle.rp_convex.proofs.Corners.{IsLowest, meeting_is, is_meeting, IsCornerOf, vertex_corner, corner_vertex}
use Rattle.rp_convex.proofs.Ends.{IsWay, EndsAt, ends}
use Rattle.rp_convex.proofs.Standing.{listed_contains, contains_listed}

-- ---- the list with one more half-space

-- the list of a cell with one more half-space
abbrev pub more : List HalfSpace → HalfSpace → List HalfSpace
more cell h = with_cube (cell ++ h ∷ [])

-- the half-spaces of before stand in it
pub old_listed : (cell : List HalfSpace) (h k : HalfSpace) → Listed k (with_cube cell) → Listed k (more cell h)
old_listed cell h k l =
    ⊎_elim
    (λ (m : Listed k cell). listed_left k (cell ++ h ∷ []) cube_half_spaces (listed_left k cell (h ∷ []) m))
    (λ (m : Listed k cube_half_spaces). listed_right k (cell ++ h ∷ []) cube_half_spaces m)
    (listed_cases k cell cube_half_spaces l)

-- the new one stands in it
pub new_listed : (cell : List HalfSpace) (h : HalfSpace) → Listed h (more cell h)
new_listed cell h = listed_left h (cell ++ h ∷ []) cube_half_spaces (listed_right h cell (h ∷ []) first)

-- the one item of a list
only_one : (h k : HalfSpace) → Listed k (h ∷ []) → h ≡ k
only_one h k first = refl
only_one h k (later l) = elim l [ ]

-- each of its half-spaces is one of before or the new one
pub more_cases : (cell : List HalfSpace) (h k : HalfSpace) → Listed k (more cell h) → Listed k (with_cube cell) ⊎ (h ≡ k)
more_cases cell h k l =
    ⊎_elim
    (λ (m : Listed k (cell ++ h ∷ [])). ⊎_elim
    (λ (n : Listed k cell). inl (listed_left k cell cube_half_spaces n))
    (λ (n : Listed k (h ∷ [])). inr (only_one h k n))
    (listed_cases k cell (h ∷ []) m))
    (λ (m : Listed k cube_half_spaces). inl (listed_right k cell cube_half_spaces m))
    (listed_cases k (cell ++ h ∷ []) cube_half_spaces l)

-- its weak system is in that of before
pub weak_before : (cell : List HalfSpace) (h : HalfSpace) (v : RationalPoint) → IsWeak (more cell h) v → IsWeak (with_cube cell) v
weak_before cell h v w = record { point = w.point; sides = λ k l. w.sides k (old_listed cell h k l) }

-- it is what of that the new half-space is not negative at
pub weak_after : (cell : List HalfSpace) (h : HalfSpace) (v : RationalPoint) → IsWeak (with_cube cell) v → pos 0 ≤ℤ side_value h v → IsWeak (more cell h) v
weak_after cell h v w n = record {
  point = w.point;
  sides = λ k l. ⊎_elim (λ (m : Listed k (with_cube cell)). w.sides k m) (λ (e : h ≡ k). subst (λ (u : HalfSpace). pos 0 ≤ℤ side_value u v) e n) (more_cases cell h k l);
}

-- ---- parallel planes

-- parallel planes meet a third one in no point
pub parallel_weight : (f g h : HalfSpace) → are_parallel f g ≡ true → meeting_weight f g h ≡ pos 0
parallel_weight f g h e =
    let x : det2 f.b f.c g.b g.c ≡ pos 0 = zero_is (det2 f.b f.c g.b g.c) (and_first (is_zero (det2 f.b f.c g.b g.c)) _ e) in
    let r = and_second (is_zero (det2 f.b f.c g.b g.c)) _ e in
    let y : det2 f.a f.c g.a g.c ≡ pos 0 = zero_is (det2 f.a f.c g.a g.c) (and_first (is_zero (det2 f.a f.c g.a g.c)) _ r) in
    let z : det2 f.a f.b g.a g.b ≡ pos 0 = zero_is (det2 f.a f.b g.a g.b) (and_second (is_zero (det2 f.a f.c g.a g.c)) _ r) in
    let s : h.a *ℤ (det2 f.b f.c g.b g.c -ℤ pos 0) +ℤ neg_ℤ h.b *ℤ (det2 f.a f.c g.a g.c -ℤ pos 0) +ℤ h.c *ℤ (det2 f.a f.b g.a g.b -ℤ pos 0) ≡ pos 0 = search zeros in
    eq_by_ring (f.a ∷ f.b ∷ f.c ∷ g.a ∷ g.b ∷ g.c ∷ h.a ∷ h.b ∷ h.c ∷ []) s (search reify depth 40 fits 100000) tt

-- planes that meet a third one in one point are not parallel
pub not_parallel : (f g h : HalfSpace) → (meeting_weight f g h ≡ pos 0 → ⊥) → are_parallel f g ≡ false
not_parallel f g h n = false_unless (are_parallel f g) (λ e. n (parallel_weight f g h e))

-- ---- forwards: a vertex with the new half-space

-- planes that meet a third one in one point have a line
line_moves : (f g h : HalfSpace) → (meeting_weight f g h ≡ pos 0 → ⊥) → IsMoving (along_line f g)
line_moves f g h n =
    let d = along_line f g in
    ⊎_elim
    (λ (m : IsMoving d). m)
    (λ (s : IsStill d). absurd (n (sym (line_change f g h) ∙ still h.a h.b h.c d.x d.y d.z s.x s.y s.z)))
    (moving_or_still d)
  where
    still : (a b c x y z : ℤ) → x ≡ pos 0 → y ≡ pos 0 → z ≡ pos 0 → a *ℤ x +ℤ b *ℤ y +ℤ c *ℤ z ≡ pos 0
    still a b c x y z ex ey ez = rw (ex, ey, ez) (by_ring_at (a ∷ b ∷ c ∷ []) (search reify depth 40 fits 100000) tt)

-- a point of the weak system on two planes and a third that meet in one point
pub record IsOnLine (hs : List HalfSpace) (f g h : HalfSpace) (v : RationalPoint) : Type 0 where
  pub weak : IsWeak hs v
  pub lowest : IsLowest v
  pub first_listed : Listed f hs
  pub second_listed : Listed g hs
  pub tight : AreTightAt v f g h

-- the way along the line of the two planes
way_along : (cell : List HalfSpace) (f g h : HalfSpace) (v : RationalPoint) → IsOnLine (with_cube cell) f g h v → IsWay (with_cube cell) f g v (along_line f g)
way_along cell f g h v k = record {
  bounded = with_cube_bounded cell;
  weak = k.weak;
  lowest = k.lowest;
  first_listed = k.first_listed;
  second_listed = k.second_listed;
  on_first = k.tight.first;
  on_second = k.tight.second;
  moving = line_moves f g h k.tight.independent;
  along_first = line_in_first f g;
  along_second = line_in_second f g;
  crosses = λ u n e. n (line_change f g u ∙ e);
}

-- the way back
way_back : (cell : List HalfSpace) (f g h : HalfSpace) (v : RationalPoint) → IsOnLine (with_cube cell) f g h v → IsWay (with_cube cell) f g v (turned (along_line f g))
way_back cell f g h v k =
    let d = along_line f g in
    record {
      bounded = with_cube_bounded cell;
      weak = k.weak;
      lowest = k.lowest;
      first_listed = k.first_listed;
      second_listed = k.second_listed;
      on_first = k.tight.first;
      on_second = k.tight.second;
      moving = turned_moving d (line_moves f g h k.tight.independent);
      along_first = along-turned f d ∙ neg_zero (along f d) (line_in_first f g);
      along_second = along-turned g d ∙ neg_zero (along g d) (line_in_second f g);
      crosses = λ u n e. n (along-turned u d ∙ neg_zero (along u d) (line_change f g u ∙ e));
    }

-- a crossing, from the two ends of the line
made_crossing : (cell : List HalfSpace) (f g h : HalfSpace) (v above below : RationalPoint) → IsOnLine (with_cube cell) f g h v
    → IsCornerOf (with_cube cell) above → IsCornerOf (with_cube cell) below → PassesThroughBoth f above below → PassesThroughBoth g above below
    → pos 0 <ℤ side_value h above → side_value h below <ℤ pos 0 → IsCrossing cell h v
made_crossing cell f g h v above below k a b pf pg up down = record {
  one = f;
  two = g;
  above = above;
  below = below;
  crossed = record {
    edge = record {
      first_vertex = corner_vertex cell above a;
      second_vertex = corner_vertex cell below b;
      first_listed = listed_contains f (with_cube cell) k.first_listed;
      second_listed = listed_contains g (with_cube cell) k.second_listed;
      not_parallel = not_parallel f g h k.tight.independent;
      first = pf;
      second = pg;
    };
    positive = up;
    negative = down;
  };
  at = is_meeting f g h v (record { point = k.weak.point; lowest = k.lowest; tight = k.tight });
}

-- a number above 0 has a negative below 0
neg_below : (v : ℤ) → pos 0 <ℤ v → neg_ℤ v <ℤ pos 0
neg_below v h = omega (arith, ints)

-- with two ends, the point is where the edge between them crosses
between_ends : (cell : List HalfSpace) (f g h : HalfSpace) (v : RationalPoint) → IsOnLine (with_cube cell) f g h v
    → EndsAt (with_cube cell) f g v (along_line f g) → EndsAt (with_cube cell) f g v (turned (along_line f g)) → IsCrossing cell h v
between_ends cell f g h v k a b =
    let d = along_line f g in
    ⊎_elim
    (λ (l : along h d <ℤ pos 0).
    made_crossing cell f g h v b.at a.at k b.corner a.corner (b.first, a.first) (b.second, a.second)
    (b.rises h k.tight.third (subst (λ (u : ℤ). pos 0 <ℤ u) (sym (along-turned h d)) (neg_positive (along h d) l)))
    (a.falls h k.tight.third l))
    (⊎_elim
    (λ (e : along h d ≡ pos 0). absurd (k.tight.independent (sym (line_change f g h) ∙ e)))
    (λ (u : pos 0 <ℤ along h d).
    made_crossing cell f g h v a.at b.at k a.corner b.corner (a.first, b.first) (a.second, b.second)
    (a.rises h k.tight.third u)
    (b.falls h k.tight.third (subst (λ (u : ℤ). u <ℤ pos 0) (sym (along-turned h d)) (neg_below (along h d) u)))))
    (trichotomy_ℤ (along h d) (pos 0))

-- a vertex on the new plane and two of before is one of before, or lies between two ends
on_line : (cell : List HalfSpace) (f g h : HalfSpace) (v : RationalPoint) → IsOnLine (with_cube cell) f g h v → IsKeptVertex cell h v ⊎ IsCrossing cell h v
on_line cell f g h v k =
    ⊎_elim
    (λ (c : IsCornerOf (with_cube cell) v). inl (corner_vertex cell v c, nonneg_of_zero (side_value h v) k.tight.third))
    (λ (a : EndsAt (with_cube cell) f g v (along_line f g)). ⊎_elim
    (λ (c : IsCornerOf (with_cube cell) v). inl (corner_vertex cell v c, nonneg_of_zero (side_value h v) k.tight.third))
    (λ (b : EndsAt (with_cube cell) f g v (turned (along_line f g))). inr (between_ends cell f g h v k a b))
    (ends (with_cube cell) f g v (turned (along_line f g)) (way_back cell f g h v k)))
    (ends (with_cube cell) f g v (along_line f g) (way_along cell f g h v k))

-- a vertex with the new half-space is kept or a crossing
forwards : (cell : List HalfSpace) (h : HalfSpace) (v : RationalPoint) → IsCornerOf (more cell h) v → IsKeptVertex cell h v ⊎ IsCrossing cell h v
forwards cell h v k =
    ⊎_elim
    (λ (a : Listed k.one hs). ⊎_elim
    (λ (b : Listed k.two hs). ⊎_elim
    (λ (c : Listed k.three hs). inl (corner_vertex cell v (all_old a b c), k.weak.sides h (new_listed cell h)))
    (λ (e : h ≡ k.three). on_line cell k.one k.two h v (line k.one k.two a b (subst (λ (u : HalfSpace). AreTightAt v k.one k.two u) (sym e) k.tight)))
    (more_cases cell h k.three k.three_listed))
    (λ (e : h ≡ k.two). ⊎_elim
    (λ (c : Listed k.three hs). on_line cell k.one k.three h v (line k.one k.three a c (subst (λ (u : HalfSpace). AreTightAt v k.one k.three u) (sym e) (s.last_two k.one k.two k.three k.tight))))
    (λ (f : h ≡ k.three). absurd (twice_last k.one k.two k.three (sym e ∙ f) k.tight))
    (more_cases cell h k.three k.three_listed))
    (more_cases cell h k.two k.two_listed))
    (λ (e : h ≡ k.one). ⊎_elim
    (λ (b : Listed k.two hs). ⊎_elim
    (λ (c : Listed k.three hs). on_line cell k.two k.three h v (line k.two k.three b c (subst (λ (u : HalfSpace). AreTightAt v k.two k.three u) (sym e) (s.last_two k.two k.one k.three (s.first_two k.one k.two k.three k.tight)))))
    (λ (f : h ≡ k.three). absurd (twice_ends k.one k.two k.three (sym e ∙ f) k.tight))
    (more_cases cell h k.three k.three_listed))
    (λ (f : h ≡ k.two). absurd (twice_first k.one k.two k.three (sym e ∙ f) k.tight))
    (more_cases cell h k.two k.two_listed))
    (more_cases cell h k.one k.one_listed)
  where
    hs : List HalfSpace
    hs = with_cube cell

    s : IsSymmetric (AreTightAt v)
    s = tight_symmetric v

    all_old : Listed k.one (with_cube cell) → Listed k.two (with_cube cell) → Listed k.three (with_cube cell) → IsCornerOf (with_cube cell) v
    all_old a b c = record {
      weak = weak_before cell h v k.weak;
      lowest = k.lowest;
      one = k.one;
      two = k.two;
      three = k.three;
      one_listed = a;
      two_listed = b;
      three_listed = c;
      tight = k.tight;
    }

    line : (f g : HalfSpace) → Listed f (with_cube cell) → Listed g (with_cube cell) → AreTightAt v f g h → IsOnLine (with_cube cell) f g h v
    line f g a b t = record { weak = weak_before cell h v k.weak; lowest = k.lowest; first_listed = a; second_listed = b; tight = t }

    twice_first : (x y z : HalfSpace) → x ≡ y → AreTightAt v x y z → ⊥
    twice_first x y z e t = s.no_twice x z (subst (λ (u : HalfSpace). AreTightAt v x u z) (sym e) t)

    twice_ends : (x y z : HalfSpace) → x ≡ z → AreTightAt v x y z → ⊥
    twice_ends x y z e t = s.no_twice x y (s.last_two x y x (subst (λ (u : HalfSpace). AreTightAt v x y u) (sym e) t))

    twice_last : (x y z : HalfSpace) → y ≡ z → AreTightAt v x y z → ⊥
    twice_last x y z e t = s.no_twice y x (s.last_two y x y (s.first_two x y y (subst (λ (u : HalfSpace). AreTightAt v x y u) (sym e) t)))

-- ---- backwards

-- a vertex at which the new half-space is not negative is one with it
kept_corner : (cell : List HalfSpace) (h : HalfSpace) (v : RationalPoint) → IsCornerOf (with_cube cell) v → pos 0 ≤ℤ side_value h v → IsCornerOf (more cell h) v
kept_corner cell h v k n = record {
  weak = weak_after cell h v k.weak n;
  lowest = k.lowest;
  one = k.one;
  two = k.two;
  three = k.three;
  one_listed = old_listed cell h k.one k.one_listed;
  two_listed = old_listed cell h k.two k.two_listed;
  three_listed = old_listed cell h k.three k.three_listed;
  tight = k.tight;
}

-- the ends of a crossed edge
pub apart : (cell : List HalfSpace) (h f g : HalfSpace) (above below : RationalPoint) → IsCrossedEdge cell h f g above below → AreApart (with_cube cell) h above below
apart cell h f g above below k = record {
  first = (vertex_corner cell above k.edge.first_vertex).weak;
  second = (vertex_corner cell below k.edge.second_vertex).weak;
  positive = k.positive;
  negative = k.negative;
}

-- the point where an edge crosses is at the place between its ends
pub at_crossing : (cell : List HalfSpace) (h f g : HalfSpace) (above below v : RationalPoint) → IsCrossedEdge cell h f g above below → meeting_point f g h ≡ Some v → SamePlace (crossing h above below) v
at_crossing cell h f g above below v k e =
    meeting_at_crossing h f g above below v (crossing_weak (with_cube cell) h above below (apart cell h f g above below k)).point
    k.edge.first.0 k.edge.first.1 k.edge.second.0 k.edge.second.1 e

-- the point where an edge crosses is a vertex with the new half-space
crossing_corner : (cell : List HalfSpace) (h : HalfSpace) (v : RationalPoint) → IsCrossing cell h v → IsCornerOf (more cell h) v
crossing_corner cell h v c =
    let k = c.crossed in
    let m = meeting_is c.one c.two h v c.at in
    let w = crossing_weak (with_cube cell) h c.above c.below (apart cell h c.one c.two c.above c.below k) in
    let same = at_crossing cell h c.one c.two c.above c.below v k c.at in
    let weak : IsWeak (with_cube cell) v = record { point = m.point; sides = λ u l. nonnegative_same u (crossing h c.above c.below) v same w.point m.point (w.sides u l) } in
    record {
      weak = weak_after cell h v weak (nonneg_of_zero (side_value h v) m.tight.third);
      lowest = m.lowest;
      one = c.one;
      two = c.two;
      three = h;
      one_listed = old_listed cell h c.one (contains_listed c.one (with_cube cell) k.edge.first_listed);
      two_listed = old_listed cell h c.two (contains_listed c.two (with_cube cell) k.edge.second_listed);
      three_listed = new_listed cell h;
      tight = m.tight;
    }

-- the law
pub vertices_follow_edges_spec : VerticesFollowEdges
vertices_follow_edges_spec cell h v = (
  λ c. forwards cell h v (vertex_corner (cell ++ h ∷ []) v c),
  λ r. corner_vertex (cell ++ h ∷ []) v (⊎_elim (λ (k : IsKeptVertex cell h v). kept_corner cell h v (vertex_corner cell v k.0) k.1) (λ (c : IsCrossing cell h v). crossing_corner cell h v c) r),
)

-- ---- the planes through a crossing

-- the law
pub crossing_keeps_planes_spec : CrossingKeepsPlanes
crossing_keeps_planes_spec cell h f g above below v k e u l =
    let a = apart cell h f g above below k in
    let w = crossing_weak (with_cube cell) h above below a in
    let same = at_crossing cell h f g above below v k e in
    let m = meeting_is f g h v e in
    let c = crossing h above below in
    let listed = contains_listed u (with_cube cell) l in (
      λ z. let o = zero_over (side_value u v) (side_value u c) v.w c.w m.point (sym (same_side u c v same)) z in
          (crossing_first (with_cube cell) h u above below a listed o, crossing_second (with_cube cell) h u above below a listed o),
      λ (p, q). zero_over (side_value u c) (side_value u v) c.w v.w w.point (same_side u c v same) (crossing_through h u above below p q),
    )

-- ---- an edge that is crossed meets the plane

-- the way from one point to another, times both weights
abbrev towards : RationalPoint → RationalPoint → Direction
towards p q = record { x = q.x *ℤ p.w -ℤ p.x *ℤ q.w; y = q.y *ℤ p.w -ℤ p.y *ℤ q.w; z = q.z *ℤ p.w -ℤ p.z *ℤ q.w }

-- how a half-space changes on it
along_towards : (k : HalfSpace) (p q : RationalPoint) → along k (towards p q) ≡ side_value k q *ℤ p.w -ℤ side_value k p *ℤ q.w
along_towards k p q = by_ring_at (k.a ∷ k.b ∷ k.c ∷ k.d ∷ p.x ∷ p.y ∷ p.z ∷ p.w ∷ q.x ∷ q.y ∷ q.z ∷ q.w ∷ []) (search reify depth 40 fits 100000) tt

-- a plane through both does not change
flat_towards : (k : HalfSpace) (p q : RationalPoint) → side_value k p ≡ pos 0 → side_value k q ≡ pos 0 → along k (towards p q) ≡ pos 0
flat_towards k p q ep eq = along_towards k p q ∙ flat (side_value k q) (side_value k p) p.w q.w eq ep
  where
    flat : (u v s t : ℤ) → u ≡ pos 0 → v ≡ pos 0 → u *ℤ s -ℤ v *ℤ t ≡ pos 0
    flat u v s t eu ev = rw (eu, ev) (by_ring_at (s ∷ t ∷ []) (search reify depth 40 fits 100000) tt)

-- a half-space that is positive at the first and negative at the second changes
steep_towards : (h : HalfSpace) (p q : RationalPoint) → IsPoint p → IsPoint q → pos 0 <ℤ side_value h p → side_value h q <ℤ pos 0 → along h (towards p q) ≡ pos 0 → ⊥
steep_towards h p q hp hq up down e = steep (side_value h q) (side_value h p) p.w q.w down up hp hq (sym (along_towards h p q) ∙ e)
  where
    steep : (u v s t : ℤ) → u <ℤ pos 0 → pos 0 <ℤ v → pos 0 <ℤ s → pos 0 <ℤ t → u *ℤ s -ℤ v *ℤ t ≡ pos 0 → ⊥
    steep u v s t hu hv hs ht e =
        let n : pos 0 <ℤ neg_ℤ u = omega (arith, ints) in
        let m : pos 0 <ℤ (neg_ℤ u *ℤ s +ℤ v *ℤ t) = search signs in
        let x : neg_ℤ u *ℤ s +ℤ v *ℤ t ≡ neg_ℤ (u *ℤ s -ℤ v *ℤ t) = by_ring_at (u ∷ v ∷ s ∷ t ∷ []) (search reify depth 40 fits 100000) tt in
        omega (arith, linear, m, x, e)

-- a direction along two planes, on which a third changes that has no determinant with them: the two are parallel, the first coordinate
still_x : (f g h : HalfSpace) (d : Direction) → along f d ≡ pos 0 → along g d ≡ pos 0 → (along h d ≡ pos 0 → ⊥) → meeting_weight f g h ≡ pos 0 → det2 f.b f.c g.b g.c ≡ pos 0
still_x f g h d ef eg n e =
    let z : d.x *ℤ (meeting_weight f g h -ℤ pos 0) +ℤ (h.b *ℤ g.c -ℤ h.c *ℤ g.b) *ℤ (along f d -ℤ pos 0) +ℤ (h.c *ℤ f.b -ℤ h.b *ℤ f.c) *ℤ (along g d -ℤ pos 0) ≡ pos 0 = search zeros in
    eq_by_multiple (f.a ∷ f.b ∷ f.c ∷ g.a ∷ g.b ∷ g.c ∷ h.a ∷ h.b ∷ h.c ∷ d.x ∷ d.y ∷ d.z ∷ []) {k = along h d} n z (search reify depth 40 fits 100000) tt

-- the second coordinate
still_y : (f g h : HalfSpace) (d : Direction) → along f d ≡ pos 0 → along g d ≡ pos 0 → (along h d ≡ pos 0 → ⊥) → meeting_weight f g h ≡ pos 0 → det2 f.a f.c g.a g.c ≡ pos 0
still_y f g h d ef eg n e =
    let z : neg_ℤ d.y *ℤ (meeting_weight f g h -ℤ pos 0) +ℤ (h.a *ℤ g.c -ℤ h.c *ℤ g.a) *ℤ (along f d -ℤ pos 0) +ℤ (h.c *ℤ f.a -ℤ h.a *ℤ f.c) *ℤ (along g d -ℤ pos 0) ≡ pos 0 = search zeros in
    eq_by_multiple (f.a ∷ f.b ∷ f.c ∷ g.a ∷ g.b ∷ g.c ∷ h.a ∷ h.b ∷ h.c ∷ d.x ∷ d.y ∷ d.z ∷ []) {k = along h d} n z (search reify depth 40 fits 100000) tt

-- the third
still_z : (f g h : HalfSpace) (d : Direction) → along f d ≡ pos 0 → along g d ≡ pos 0 → (along h d ≡ pos 0 → ⊥) → meeting_weight f g h ≡ pos 0 → det2 f.a f.b g.a g.b ≡ pos 0
still_z f g h d ef eg n e =
    let z : d.z *ℤ (meeting_weight f g h -ℤ pos 0) +ℤ (h.a *ℤ g.b -ℤ h.b *ℤ g.a) *ℤ (along f d -ℤ pos 0) +ℤ (h.b *ℤ f.a -ℤ h.a *ℤ f.b) *ℤ (along g d -ℤ pos 0) ≡ pos 0 = search zeros in
    eq_by_multiple (f.a ∷ f.b ∷ f.c ∷ g.a ∷ g.b ∷ g.c ∷ h.a ∷ h.b ∷ h.c ∷ d.x ∷ d.y ∷ d.z ∷ []) {k = along h d} n z (search reify depth 40 fits 100000) tt

-- the planes of a crossed edge and the new one meet in one point
pub crossed_independent : (cell : List HalfSpace) (h f g : HalfSpace) (above below : RationalPoint) → IsCrossedEdge cell h f g above below → meeting_weight f g h ≡ pos 0 → ⊥
crossed_independent cell h f g above below k e =
    let a = apart cell h f g above below k in
    let d = towards above below in
    let ef = flat_towards f above below k.edge.first.0 k.edge.first.1 in
    let eg = flat_towards g above below k.edge.second.0 k.edge.second.1 in
    let n = steep_towards h above below a.first.point a.second.point k.positive k.negative in
    false_not_true (are_parallel f g)
    (and_true (is_zero (det2 f.b f.c g.b g.c)) _ (is_zero_true _ (still_x f g h d ef eg n e))
    (and_true (is_zero (det2 f.a f.c g.a g.c)) _ (is_zero_true _ (still_y f g h d ef eg n e)) (is_zero_true _ (still_z f g h d ef eg n e))))
    k.edge.not_parallel

-- the law
pub crossed_edges_meet_spec : CrossedEdgesMeet
crossed_edges_meet_spec cell h f g above below k = ap is_some (meets f g h (crossed_independent cell h f g above below k)).is
