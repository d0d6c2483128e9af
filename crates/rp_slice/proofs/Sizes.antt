-- Sizes: the numbers of traces and of ends keep the program's bounds, and a ring is short.
use Rattle.std.proofs.Common.{◌≡◌, suc, ◌+◌, ◌≤◌, ◌<◌, ℤ, pos, neg_ℤ, ◌+ℤ◌, ◌-ℤ◌, ◌*ℤ◌, ◌<ℤ◌, Bool, true, false, List, [], ◌∷◌, length, ⊎_elim, Some, None, refl, sym, ap, ◌∙◌, subst, arith}
use Rattle.std.proofs.lemmas.Int.{ints}
use Rattle.rp_algebra.proofs.IntLaws.{linear, trichotomy_ℤ, cancel_mul_left_ℤ, mul_pos_ℤ}
use Rattle.rp_algebra.proofs.Numbers.{zero_or_not, neg_positive}
use Rattle.rp_algebra.proofs.Reify.{by_ring_at, reify}
use Rattle.rp_algebra.proofs.Options.{same_some, of_some}
use Rattle.rp_algebra.proofs.Listed.{Listed, first, later, all_of, of_all}
use Rattle.rp_geometry.specs.Geometry.{RationalPoint, HalfSpace, IsHalfSpace, IsSmallPoint, IsKeptPoint, side_value}
use Rattle.rp_geometry.specs.searches.Vertex.{meeting_weight, cramer_point, negated_point, meeting_point}
use Rattle.rp_geometry.specs.laws.CellLaws.{AreHalfSpaces}
use Rattle.rp_geometry.specs.sections.Trace.{IsHeight, IsAtHeight, Trace, has_trace, trace_at, trace_value, traces, trace_before, with_sides}
use Rattle.rp_geometry.specs.laws.SectionLaws.{IsSmallTrace, level_plane, TracesMeetWherePlanesDo, RingIsKept, RingIsShort}
use Rattle.rp_geometry.specs.sections.Ring.{RingStep, turn_of, cross, crossing, trace_meeting, is_angle_before, angles_rise}
use Rattle.rp_convex.proofs.Meeting.{meets}
use Rattle.rp_convex.proofs.OnlyOne.{no_meeting}
use Rattle.rp_convex.proofs.Sizes.{meeting_point_is_small_spec}
use Rattle.rp_slice.proofs.Traces.{direction_of, IsTraceAt, trace_at-is, side_of_trace, trace_from}
use Rattle.rp_slice.proofs.Small.{trace_is_small_spec}
use Rattle.rp_slice.proofs.Turns.{onward, joins}
use Rattle.rp_slice.proofs.Rings.{IsLowestPoint, IsRingOf, ring_to}
use Rattle.rp_slice.proofs.Angles.{HaveDirections, not_before_itself, before_rest, rising_rest}
use Rattle.rp_slice.proofs.Spots.{reduced_lowest}
use Rattle.rp_slice.proofs.Unique.{have_directions}
use Rattle.rp_slice.proofs.FlatFound.{with_sides_bounds}
use Rattle.rp_slice.proofs.Walks.{count_by, count, AllDirections, count_less, all_directions}
use Rattle.rp_slice.proofs.RingFound.{meeting_is, normal_above, normal_below, normal_zero}

-- ---- where traces meet
-- the determinant of two planes and that of a height
weight_of : (fa fb fc ga gb gc k l ta tb ua ub : ℤ) → k *ℤ ta ≡ fa → k *ℤ tb ≡ fb → l *ℤ ua ≡ ga → l *ℤ ub ≡ gb
    → meeting_weight (record { a = fa; b = fb; c = fc; d = pos 0 }) (record { a = ga; b = gb; c = gc; d = pos 0 }) (record { a = pos 0; b = pos 0; c = pos 1; d = pos 0 }) ≡ (k *ℤ l) *ℤ (ta *ℤ ub -ℤ ua *ℤ tb)
weight_of fa fb fc ga gb gc k l ta tb ua ub ea eb ec ed =
    by_ring_at (fa ∷ fb ∷ fc ∷ ga ∷ gb ∷ gc ∷ []) {y = fa *ℤ gb -ℤ ga *ℤ fb} (search reify depth 40 fits 1000000) tt
    ∙ (λ i. sym ea i *ℤ sym ed i -ℤ sym ec i *ℤ sym eb i)
    ∙ by_ring_at (k ∷ l ∷ ta ∷ tb ∷ ua ∷ ub ∷ []) (search reify depth 40 fits 100000) tt

-- a point of the plane of a height has that height
height_from : (x y z w u : ℤ) → pos 0 *ℤ x +ℤ pos 0 *ℤ y +ℤ pos 1 *ℤ u +ℤ neg_ℤ z *ℤ w ≡ pos 0 → u ≡ z *ℤ w
height_from x y z w u e =
    let s : pos 0 *ℤ x +ℤ pos 0 *ℤ y +ℤ pos 1 *ℤ u +ℤ neg_ℤ z *ℤ w ≡ u -ℤ z *ℤ w = by_ring_at (x ∷ y ∷ z ∷ w ∷ u ∷ []) (search reify depth 40 fits 100000) tt in
    omega (arith, linear, s, e)

-- a meeting point is in lowest terms
meeting_lowest : (f g h : HalfSpace) (p : RationalPoint) → (meeting_weight f g h ≡ pos 0 → ⊥) → meeting_point f g h ≡ Some p → IsLowestPoint p
unfolding meeting_point
meeting_lowest f g h p n e =
    let c = cramer_point f g h in
    ⊎_elim
    (λ (low : meeting_weight f g h <ℤ pos 0). subst IsLowestPoint (same_some _ p (sym (normal_below c low) ∙ e)) (reduced_lowest (negated_point c) (neg_positive (meeting_weight f g h) low)))
    (λ r. ⊎_elim
    (λ (zero : meeting_weight f g h ≡ pos 0). absurd (n zero))
    (λ (high : pos 0 <ℤ meeting_weight f g h). subst IsLowestPoint (same_some _ p (sym (normal_above c high) ∙ e)) (reduced_lowest c high)) r)
    (trichotomy_ℤ (meeting_weight f g h) (pos 0))

-- a trace is 0 where its half-space is
trace_zero : (z : ℤ) (h : HalfSpace) (t : Trace) (p : RationalPoint) → IsAtHeight z p → IsTraceAt z h t → side_value h p ≡ pos 0 → trace_value t p ≡ pos 0
trace_zero z h t p e k s = cancel_mul_left_ℤ k.factor (trace_value t p) (pos 0) k.positive (sym (side_of_trace z h t p e k) ∙ s ∙ by_ring_at (k.factor ∷ []) (search reify depth 40 fits 100000) tt)

-- parallel traces meet nowhere
pub parallel_none : (z : ℤ) (s t : Trace) → cross s t ≡ pos 0 → trace_meeting z s t ≡ None
unfolding trace_meeting
parallel_none z s t e = normal_zero (crossing z s t) e

-- the law
pub traces_meet_where_planes_do_spec : TracesMeetWherePlanesDo
traces_meet_where_planes_do_spec z f g ef eg =
    let s = trace_at z f in
    let t = trace_at z g in
    let ks = trace_at-is z f (direction_of f ef) in
    let kt = trace_at-is z g (direction_of g eg) in
    let l = level_plane z in
    let w = weight_of f.a f.b f.c g.a g.b g.c ks.factor kt.factor s.a s.b t.a t.b ks.a ks.b kt.a kt.b in
    ⊎_elim
    (λ (e : cross s t ≡ pos 0). parallel_none z s t e ∙ sym (no_meeting f g l (w ∙ ap (λ (v : ℤ). (ks.factor *ℤ kt.factor) *ℤ v) e ∙ by_ring_at (ks.factor ∷ kt.factor ∷ []) (search reify depth 40 fits 100000) tt)))
    (λ (n : cross s t ≡ pos 0 → ⊥).
    let m = not_zero (ks.factor *ℤ kt.factor) (cross s t) (meeting_weight f g l) (mul_pos_ℤ ks.factor kt.factor ks.positive kt.positive) w n in
    let r = meets f g l m in
    let at = r.only.0 in
    let hp = height_from r.at.x r.at.y z r.at.w r.at.z at.on_third in
    meeting_is z s t r.at (meeting_lowest f g l r.at m r.is) hp (trace_zero z f s r.at hp ks at.on_first) (trace_zero z g t r.at hp kt at.on_second) n ∙ sym r.is)
    (zero_or_not (cross s t))
  where
    not_zero : (k c v : ℤ) → pos 0 <ℤ k → v ≡ k *ℤ c → (c ≡ pos 0 → ⊥) → v ≡ pos 0 → ⊥
    not_zero k c v h e n z = n (cancel_mul_left_ℤ k c (pos 0) h (sym e ∙ z ∙ by_ring_at (k ∷ []) (search reify depth 40 fits 100000) tt))

-- ---- the numbers of a ring
-- the plane of a height of the cube is a half-space
level_is : (z : ℤ) → IsHeight z → IsHalfSpace (level_plane z)
level_is z k = record {
  a = omega arith;
  b = omega arith;
  c = omega arith;
  d = (let l = k.lower in let u = k.upper in omega (arith, ints, l, u));
  nonzero = refl;
}

module _ (z : ℤ) (cell : List HalfSpace) (steps : List RingStep) (hz : IsHeight z) (bounds : AreHalfSpaces cell) (ring : IsRingOf z (traces z (with_sides cell)) steps) where
  -- a half-space of the flat list is within its bounds
  listed_bounds : (h : HalfSpace) → Listed h (with_sides cell) → IsHalfSpace h
  listed_bounds h l = all_of IsHalfSpace (with_sides cell) (with_sides_bounds cell bounds) h l

  -- an edge is small
  edge_small : (s : RingStep) → Listed s steps → IsSmallTrace s.edge
  edge_small s l =
      let c = trace_from z (with_sides cell) s.edge (ring.each s l).edge in
      subst IsSmallTrace (sym c.same) (trace_is_small_spec z c.of hz (listed_bounds c.of c.listed))

  -- an end is small
  end_small : (s : RingStep) → Listed s steps → IsSmallPoint s.end
  end_small s l =
      let o = onward steps s l in
      let j = joins steps (turn_of s o.to) o.listed in
      let t = ring.turns (turn_of s o.to) o.listed in
      let k = ring.each s l in
      let c = trace_from z (with_sides cell) s.edge k.edge in
      let d = trace_from z (with_sides cell) o.to.edge (ring.each o.to j.next).edge in
      let m = meeting_is z s.edge o.to.edge s.end k.end k.height t.on_edge t.on_next (λ e. not_zero (cross s.edge o.to.edge) t.left e) in
      of_some IsSmallPoint (meeting_point c.of d.of (level_plane z)) s.end
      (sym (traces_meet_where_planes_do_spec z c.of d.of c.has d.has) ∙ (λ i. trace_meeting z (sym c.same i) (sym d.same i)) ∙ m)
      (meeting_point_is_small_spec c.of d.of (level_plane z) (listed_bounds c.of c.listed) (listed_bounds d.of d.listed) (level_is z hz))
    where
      not_zero : (c : ℤ) → pos 0 <ℤ c → c ≡ pos 0 → ⊥
      not_zero c h e = omega (arith, linear, h, e)

-- the law
pub ring_is_kept_spec : RingIsKept
ring_is_kept_spec z cell steps hz bounds e =
    let ring = ring_to z cell steps e in
    of_all (λ s. IsSmallTrace s.edge × IsKeptPoint s.end) steps
    (λ s l. (edge_small z cell steps hz bounds ring s l, record { numbers = end_small z cell steps hz bounds ring s l; lowest = (ring.each s l).end.lowest }))

-- ---- a ring is short
-- fewer traces are behind one than all
count_most : (e : Trace) (ts : List Trace) → count e ts ≤ length ts
count_most e [] = omega arith
count_most e (t ∷ ts) = by_test (is_angle_before e t) (count_most e ts)
  where
    by_test : (b : Bool) → count e ts ≤ length ts → count_by b (count e ts) ≤ suc (length ts)
    by_test true h = omega (arith, h)
    by_test false h = omega (arith, h)

-- fewer than all are behind one of them
count_fewer : (e : Trace) (ts : List Trace) → Listed e ts → count e ts < length ts
count_fewer e [] l = elim l [ ]
count_fewer e (t ∷ ts) first = own (is_angle_before e e) refl (count_most e ts)
  where
    own : (b : Bool) → is_angle_before e e ≡ b → count e ts ≤ length ts → count_by b (count e ts) < suc (length ts)
    own true k h = absurd (not_before_itself e k)
    own false k h = omega (arith, h)
count_fewer e (t ∷ ts) (later l) = by_test (is_angle_before e t) (count_fewer e ts l)
  where
    by_test : (b : Bool) → count e ts < length ts → count_by b (count e ts) < suc (length ts)
    by_test true h = omega (arith, h)
    by_test false h = omega (arith, h)

-- at most as many steps follow one as traces are behind its edge
steps_behind : (ts : List Trace) → AllDirections ts → (s : RingStep) (steps : List RingStep) → ((r : RingStep) → Listed r (s ∷ steps) → Listed r.edge ts) → HaveDirections (s ∷ steps) → angles_rise (s ∷ steps) ≡ true → length steps ≤ count s.edge ts
steps_behind ts d s [] sub n e = omega arith
steps_behind ts d s (r ∷ steps) sub n e =
    let h = steps_behind ts d r steps (λ q l. sub q (later l)) (λ q l. n q (later l)) (rising_rest s (r ∷ steps) e) in
    let b = before_rest s (r ∷ steps) n e r first in
    let c = count_less s.edge r.edge (n s first) (n r (later first)) b ts d (sub r (later first)) in
    omega (arith, h, c)

-- so there are at most as many steps as traces
steps_most : (ts : List Trace) → AllDirections ts → (steps : List RingStep) → ((r : RingStep) → Listed r steps → Listed r.edge ts) → HaveDirections steps → angles_rise steps ≡ true → length steps ≤ length ts
steps_most ts d [] sub n e = omega arith
steps_most ts d (s ∷ steps) sub n e =
    let h = steps_behind ts d s steps sub n e in
    let c = count_fewer s.edge ts (sub s first) in
    omega (arith, h, c)

-- at most as many traces as half-spaces
traces_most : (z : ℤ) (hs : List HalfSpace) → length (traces z hs) ≤ length hs
traces_most z [] = omega arith
traces_most z (h ∷ hs) = by_test (has_trace h) (traces_most z hs)
  where
    by_test : (b : Bool) → length (traces z hs) ≤ length hs → length (trace_before b (trace_at z h) (traces z hs)) ≤ suc (length hs)
    by_test true k = omega (arith, k)
    by_test false k = omega (arith, k)

-- the flat list has four more
sides_more : (cell : List HalfSpace) → length (with_sides cell) ≡ length cell + 4
sides_more [] = refl
sides_more (h ∷ cell) = let e = sides_more cell in omega (arith, e)

-- the law
pub ring_is_short_spec : RingIsShort
ring_is_short_spec z cell steps e =
    let ring = ring_to z cell steps e in
    let hs = with_sides cell in
    let a = steps_most (traces z hs) (all_directions z hs) steps (λ r l. (ring.each r l).edge) (have_directions z hs steps ring) ring.rising in
    let b = traces_most z hs in
    let c = sides_more cell in
    omega (arith, a, b, c)
