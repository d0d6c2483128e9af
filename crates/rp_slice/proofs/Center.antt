-- The sum of the ends of a ring is a point at which all traces are above 0; so a cell with a ring has a member at the height.
use Rattle.std.proofs.Common.{◌≡◌, ℤ, pos, ◌+ℤ◌, ◌*ℤ◌, ◌≤ℤ◌, ◌<ℤ◌, true, List, [], ◌∷◌, ◌⊎◌, inl, inr, ⊎_elim, sym, ◌∙◌, subst, arith}
use Rattle.rp_algebra.proofs.IntLaws.{linear, signs, trichotomy_ℤ, cancel_mul_left_ℤ, mul_pos_ℤ, nonneg_of_pos_ℤ}
use Rattle.rp_algebra.proofs.Reify.{by_ring_at, lt_by_multiple, reify}
use Rattle.rp_algebra.proofs.Listed.{Listed, first, later}
use Rattle.rp_geometry.specs.Geometry.{RationalPoint, HalfSpace, IsPoint, point_of}
use Rattle.rp_geometry.specs.sections.Trace.{IsAtHeight, IsHeight, Trace, trace_of, trace_value, trace_holds, with_sides}
use Rattle.rp_geometry.specs.laws.SectionLaws.{IsMemberAt, RingShowsMember}
use Rattle.rp_geometry.specs.sections.Ring.{RingStep, turn_of, cross}
use Rattle.rp_slice.proofs.Traces.{IsDirection, traces, trace_in}
use Rattle.rp_slice.proofs.Turns.{onward, joins}
use Rattle.rp_slice.proofs.Rings.{IsRingOf, LevelsHold, ring_to, levels_to}
use Rattle.rp_slice.proofs.Support.{rises, leans_on, not_empty}
use Rattle.rp_slice.proofs.Owned.{held_from}
use Rattle.rp_slice.proofs.Members.{of_held_at}
use Rattle.rp_slice.proofs.Holding.{value_by_edges, direction_by}

-- ---- the sum of the ends

-- the sum of two points
abbrev pub plus : RationalPoint → RationalPoint → RationalPoint
plus p q = point_of (p.x +ℤ q.x) (p.y +ℤ q.y) (p.z +ℤ q.z) (p.w +ℤ q.w)

-- the sum of the ends of the steps
abbrev pub center : List RingStep → RationalPoint
center [] = point_of (pos 0) (pos 0) (pos 0) (pos 0)
center (s ∷ steps) = plus s.end (center steps)

-- the value at no ends
value_none : (a b d : ℤ) → a *ℤ pos 0 +ℤ b *ℤ pos 0 +ℤ d *ℤ pos 0 ≡ pos 0
value_none a b d = by_ring_at (a ∷ b ∷ d ∷ []) (search reify depth 40 fits 100000) tt

-- the value at a sum
value_plus : (t : Trace) (p q : RationalPoint) → trace_value t (plus p q) ≡ trace_value t p +ℤ trace_value t q
value_plus t p q = by_ring_at (t.a ∷ t.b ∷ t.d ∷ p.x ∷ p.y ∷ p.w ∷ q.x ∷ q.y ∷ q.w ∷ []) (search reify depth 40 fits 100000) tt

-- a trace that is negative at no end is not at the sum
center_least : (t : Trace) (steps : List RingStep) → ((s : RingStep) → Listed s steps → pos 0 ≤ℤ trace_value t s.end) → pos 0 ≤ℤ trace_value t (center steps)
center_least t [] h = let e = value_none t.a t.b t.d in omega (arith, linear, e)
center_least t (s ∷ steps) h =
    let e = value_plus t s.end (center steps) in
    let a = h s first in
    let b = center_least t steps (λ r l. h r (later l)) in
    omega (arith, linear, e, a, b)

-- one that is positive at one of them is positive at the sum
center_above : (t : Trace) (steps : List RingStep) → ((s : RingStep) → Listed s steps → pos 0 ≤ℤ trace_value t s.end) → (r : RingStep) → Listed r steps → pos 0 <ℤ trace_value t r.end → pos 0 <ℤ trace_value t (center steps)
center_above t [] h r l k = elim l [ ]
center_above t (s ∷ steps) h r first k =
    let e = value_plus t s.end (center steps) in
    let b = center_least t steps (λ r l. h r (later l)) in
    omega (arith, linear, e, k, b)
center_above t (s ∷ steps) h r (later l) k =
    let e = value_plus t s.end (center steps) in
    let a = h s first in
    let b = center_above t steps (λ r l. h r (later l)) r l k in
    omega (arith, linear, e, a, b)

-- the weight, as the value of a trace
weight_value : (x y w : ℤ) → pos 0 *ℤ x +ℤ pos 0 *ℤ y +ℤ pos 1 *ℤ w ≡ w
weight_value x y w = by_ring_at (x ∷ y ∷ w ∷ []) (search reify depth 40 fits 100000) tt

-- a number above 0, along a path
above_along : (u v : ℤ) → u ≡ v → pos 0 <ℤ v → pos 0 <ℤ u
above_along u v e h = omega (arith, linear, e, h)

-- the sum has a weight above 0
center_weight : (steps : List RingStep) → ((s : RingStep) → Listed s steps → IsPoint s.end) → (r : RingStep) → Listed r steps → IsPoint (center steps)
center_weight steps h r l =
    above_along (center steps).w _ (sym (weight_value (center steps).x (center steps).y (center steps).w))
    (center_above (trace_of (pos 0) (pos 0) (pos 1)) steps (λ s m. nonneg_of_pos_ℤ _ (above_along _ s.end.w (weight_value s.end.x s.end.y s.end.w) (h s m))) r l
    (above_along _ r.end.w (weight_value r.end.x r.end.y r.end.w) (h r l)))

-- the sum has the height
center_height : (z : ℤ) (steps : List RingStep) → ((s : RingStep) → Listed s steps → IsAtHeight z s.end) → IsAtHeight z (center steps)
center_height z [] h = by_ring_at (z ∷ []) (search reify depth 40 fits 100000) tt
center_height z (s ∷ steps) h = (λ i. h s first i +ℤ center_height z steps (λ r l. h r (later l)) i) ∙ by_ring_at (z ∷ s.end.w ∷ (center steps).w ∷ []) (search reify depth 40 fits 100000) tt

-- ---- all traces are above 0 there

-- the value is above 0 where a part of it is
pub value_above : (c w v a b d : ℤ) → pos 0 <ℤ c → pos 0 <ℤ w → c *ℤ (w *ℤ v) ≡ a +ℤ (b +ℤ d) → pos 0 ≤ℤ a → pos 0 ≤ℤ b → pos 0 ≤ℤ d → (pos 0 <ℤ b) ⊎ (pos 0 <ℤ d) → pos 0 <ℤ v
value_above c w v a b d hc hw e ha hb hd o =
    let m : pos 0 ≤ℤ (c *ℤ w) = search signs in
    let n : pos 0 <ℤ (c *ℤ (w *ℤ v)) = subst (λ (x : ℤ). pos 0 <ℤ x) (sym e) (⊎_elim (λ h. (omega (arith, linear, h, ha, hd))) (λ h. (omega (arith, linear, h, ha, hb))) o) in
    lt_by_multiple (c ∷ w ∷ v ∷ []) {k = c *ℤ w} m n (search reify depth 40 fits 100000) tt

-- a sum of two multiples by 0 is 0
both_gone : (a b x y : ℤ) → a ≡ pos 0 → b ≡ pos 0 → a *ℤ x +ℤ b *ℤ y ≡ pos 0
both_gone a b x y ea eb = (λ i. ea i *ℤ x +ℤ eb i *ℤ y) ∙ by_ring_at (x ∷ y ∷ []) (search reify depth 40 fits 100000) tt

-- a direction is not between two others by two multiples of 0
pub some_part : (e f t : Trace) → pos 0 <ℤ cross e f → IsDirection t.a t.b → pos 0 ≤ℤ cross t f → pos 0 ≤ℤ cross e t → (pos 0 <ℤ cross t f) ⊎ (pos 0 <ℤ cross e t)
some_part e f t c n to from =
    ⊎_elim
    (λ (l : cross t f <ℤ pos 0). absurd (omega (arith, linear, l, to)))
    (λ r. ⊎_elim
    (λ (y : cross t f ≡ pos 0). ⊎_elim
    (λ (l : cross e t <ℤ pos 0). absurd (omega (arith, linear, l, from)))
    (λ q. ⊎_elim
    (λ (x : cross e t ≡ pos 0). absurd (let d = direction_by e.a e.b f.a f.b t.a t.b in n (gone (cross e f) t.a c (d.0 ∙ both_gone _ _ e.a f.a y x)) (gone (cross e f) t.b c (d.1 ∙ both_gone _ _ e.b f.b y x))))
    (λ g. inr g) q)
    (trichotomy_ℤ (cross e t) (pos 0)))
    (λ g. inl g) r)
    (trichotomy_ℤ (cross t f) (pos 0))
  where
    gone : (c a : ℤ) → pos 0 <ℤ c → c *ℤ a ≡ pos 0 → a ≡ pos 0
    gone c a h e = cancel_mul_left_ℤ c a (pos 0) h (e ∙ by_ring_at (c ∷ []) (search reify depth 40 fits 100000) tt)

-- a point at which all traces of a list are above 0
pub record IsWithinAll (z : ℤ) (ts : List Trace) (p : RationalPoint) : Type 0 where
  pub point : IsPoint p
  pub height : IsAtHeight z p
  pub above : (t : Trace) → Listed t ts → pos 0 <ℤ trace_value t p

-- a trace that is above 0 at a point holds it
pub above_holds : (t : Trace) (p : RationalPoint) → pos 0 <ℤ trace_value t p → trace_holds t p ≡ true
above_holds t p h = held_from t p (record { least = nonneg_of_pos_ℤ (trace_value t p) h; then = λ e. absurd (let k = h in omega (arith, linear, k, e)) })

module _ (z : ℤ) (hs : List HalfSpace) (steps : List RingStep) (ring : IsRingOf z (traces z hs) steps) (r : RingStep) (rl : Listed r steps) where
  -- the sum of the ends is a point
  center_point : IsPoint (center steps)
  center_point = center_weight steps (λ s l. (ring.each s l).end.point) r rl

  -- each edge is above 0 there
  edge_above : (s : RingStep) → Listed s steps → pos 0 <ℤ trace_value s.edge (center steps)
  edge_above s l =
      let o = onward steps s l in
      center_above s.edge steps (λ q m. (ring.each q m).weak s.edge (ring.each s l).edge) o.to (joins steps (turn_of s o.to) o.listed).next (rises z (traces z hs) steps ring (turn_of s o.to) o.listed)

  -- each trace is
  trace_above : (t : Trace) → Listed t (traces z hs) → pos 0 <ℤ trace_value t (center steps)
  trace_above t l =
      let k = leans_on z (traces z hs) steps ring t in
      let j = joins steps k.turn k.listed in
      let u = ring.turns k.turn k.listed in
      let s = ring.each k.turn.step j.step in
      let e = edge_above k.turn.step j.step in
      let f = edge_above k.turn.next j.next in
      let m = s.weak t l in
      parts (cross k.turn.step.edge k.turn.next.edge) (cross t k.turn.next.edge) (cross k.turn.step.edge t) k.turn.step.end.w (center steps).w (trace_value t k.turn.step.end) (trace_value k.turn.step.edge (center steps)) (trace_value k.turn.next.edge (center steps)) (trace_value t (center steps))
      u.left k.to k.from s.end.point center_point m e f (some_part k.turn.step.edge k.turn.next.edge t u.left (trace_in z hs t l).direction k.to k.from)
      (value_by_edges k.turn.step.edge k.turn.next.edge t k.turn.step.end (center steps) u.on_edge u.on_next)
    where
      parts : (c a b w x tp ec fc v : ℤ) → pos 0 <ℤ c → pos 0 ≤ℤ a → pos 0 ≤ℤ b → pos 0 <ℤ w → pos 0 <ℤ x → pos 0 ≤ℤ tp → pos 0 <ℤ ec → pos 0 <ℤ fc → (pos 0 <ℤ a) ⊎ (pos 0 <ℤ b)
          → c *ℤ (w *ℤ v) ≡ c *ℤ (x *ℤ tp) +ℤ (a *ℤ (w *ℤ ec) +ℤ b *ℤ (w *ℤ fc)) → pos 0 <ℤ v
      parts c a b w x tp ec fc v hc ha hb hw hx htp hec hfc o e =
          value_above c w v (c *ℤ (x *ℤ tp)) (a *ℤ (w *ℤ ec)) (b *ℤ (w *ℤ fc)) hc hw e (search signs) (search signs) (search signs)
          (⊎_elim (λ h. inl (mul_pos_ℤ a (w *ℤ ec) h (mul_pos_ℤ w ec hw hec))) (λ h. inr (mul_pos_ℤ b (w *ℤ fc) h (mul_pos_ℤ w fc hw hfc))) o)

  -- so it is a point at which all traces are above 0
  within : IsWithinAll z (traces z hs) (center steps)
  within = record { point = center_point; height = center_height z steps (λ s l. (ring.each s l).height); above = trace_above }

-- a ring has such a point
pub within_all : (z : ℤ) (hs : List HalfSpace) (steps : List RingStep) → IsRingOf z (traces z hs) steps → IsWithinAll z (traces z hs) (center steps)
within_all z hs [] k = absurd (not_empty z k.many)
within_all z hs (s ∷ steps) k = within z hs (s ∷ steps) k s first

-- such a point is a member, where the half-spaces without a trace hold the height
pub within_is_member : (z : ℤ) (cell : List HalfSpace) (p : RationalPoint) → IsHeight z → IsWithinAll z (traces z (with_sides cell)) p → LevelsHold z (with_sides cell) → IsMemberAt z cell p
within_is_member z cell p hz k levels = of_held_at z cell p hz (record { point = k.point; height = k.height; traces_hold = λ t l. above_holds t p (k.above t l); levels = levels })

-- the law
pub ring_shows_member_spec : RingShowsMember
ring_shows_member_spec z cell steps hz e = (center steps, within_is_member z cell (center steps) hz (within_all z (with_sides cell) steps (ring_to z cell steps e)) (levels_to z cell steps e))
