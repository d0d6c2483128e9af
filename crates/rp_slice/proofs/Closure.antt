-- The closure of a section: near its members are exactly the points of the height at which no trace is negative. It lies on the left of the ring.
use Rattle.std.proofs.Common.{◌≡◌, ℕ, ◌+◌, ◌*◌, ◌≤◌, ℤ, pos, neg_ℤ, nat_abs, ◌+ℤ◌, ◌-ℤ◌, ◌*ℤ◌, ◌≤ℤ◌, ◌<ℤ◌, List, [], ◌∷◌, ⊎_elim, sym, ◌∙◌, subst, arith}
use Rattle.std.proofs.lemmas.Int.{ints}
use Rattle.rp_algebra.proofs.IntLaws.{signs, nonneg_of_pos_ℤ, le_or_lt_ℤ, nat_nonneg_ℤ, mul_nonneg_ℤ}
use Rattle.rp_algebra.proofs.Reify.{by_ring_at, le_by_ring, le_by_multiple, reify}
use Rattle.rp_algebra.proofs.Listed.{Listed, of_all}
use Rattle.rp_algebra.proofs.Numbers.{more_positive, size_below, size_above, bounded_below, bounded_above, product_at_least}
use Rattle.rp_geometry.specs.Geometry.{RationalPoint, HalfSpace, point_of}
use Rattle.rp_geometry.specs.sets.Contact.{IsCloseTo}
use Rattle.rp_geometry.specs.searches.Vertex.{det3}
use Rattle.rp_geometry.specs.sections.Trace.{IsHeight, Trace, trace_value, with_sides}
use Rattle.rp_geometry.specs.laws.SectionLaws.{IsMemberAt, IsNearAt, IsOnTheLeft, ClosureIsOnTheLeft}
use Rattle.rp_geometry.specs.sections.Ring.{RingStep, Turn, cross, turns_of}
use Rattle.rp_geometry.proofs.Points.{apart, near_close, closeness}
use Rattle.rp_slice.proofs.Traces.{traces}
use Rattle.rp_slice.proofs.Turns.{joins}
use Rattle.rp_slice.proofs.Rings.{LevelsHold, IsRingOf, ring_to, on_edge}
use Rattle.rp_slice.proofs.Support.{rises}
use Rattle.rp_slice.proofs.Owned.{held_to}
use Rattle.rp_slice.proofs.Members.{held_at_of}
use Rattle.rp_slice.proofs.Center.{IsWithinAll, within_is_member}
use Rattle.rp_slice.proofs.Spots.{IsWeakAt}

-- ---- no trace is negative near the members

-- a trace that is negative at one point is not at least 0 at another that is as close by as 1/(1 + 2 m w)
not_too_near : (a b d x y w s t v m i j : ℤ) → pos 0 <ℤ w → pos 0 <ℤ v → pos 0 ≤ℤ m
    → pos 0 ≤ℤ (a *ℤ apart x w s v +ℤ m *ℤ i) → pos 0 ≤ℤ (b *ℤ apart y w t v +ℤ m *ℤ j)
    → ((pos 1 +ℤ pos 2 *ℤ m *ℤ w) *ℤ i) ≤ℤ (w *ℤ v) → ((pos 1 +ℤ pos 2 *ℤ m *ℤ w) *ℤ j) ≤ℤ (w *ℤ v)
    → (a *ℤ x +ℤ b *ℤ y +ℤ d *ℤ w) <ℤ pos 0 → pos 0 ≤ℤ (a *ℤ s +ℤ b *ℤ t +ℤ d *ℤ v) → ⊥
not_too_near a b d x y w s t v m i j hw hv hm ha hb hi hj below at =
    let f : pos 0 ≤ℤ (neg_ℤ (a *ℤ x +ℤ b *ℤ y +ℤ d *ℤ w) -ℤ pos 1) = one_below (a *ℤ x +ℤ b *ℤ y +ℤ d *ℤ w) below in
    let p = sum_nonnegative (pos 1 +ℤ pos 2 *ℤ m *ℤ w) m w v (neg_ℤ (a *ℤ x +ℤ b *ℤ y +ℤ d *ℤ w) -ℤ pos 1) (a *ℤ s +ℤ b *ℤ t +ℤ d *ℤ v) a b (apart x w s v) (apart y w t v) i j
    (search signs) hm (nonneg_of_pos_ℤ w hw) (nonneg_of_pos_ℤ v hv) f at ha hb (gap _ _ hi) (gap _ _ hj) in
    let l : pos 0 ≤ℤ neg_ℤ v = le_by_ring (a ∷ b ∷ d ∷ x ∷ y ∷ w ∷ s ∷ t ∷ v ∷ m ∷ i ∷ j ∷ []) p (search reify depth 40 fits 100000) tt in
    not_above v hv l
  where
    one_below : (v : ℤ) → v <ℤ pos 0 → pos 0 ≤ℤ (neg_ℤ v -ℤ pos 1)
    one_below v h = omega (arith, ints)

    gap : (u v : ℤ) → u ≤ℤ v → pos 0 ≤ℤ (v -ℤ u)
    gap u v h = omega (arith, ints)

    not_above : (v : ℤ) → pos 0 <ℤ v → pos 0 ≤ℤ neg_ℤ v → ⊥
    not_above v h k = omega (arith, ints)

    sum_nonnegative : (n m w v f s a b r t i j : ℤ) → pos 0 ≤ℤ n → pos 0 ≤ℤ m → pos 0 ≤ℤ w → pos 0 ≤ℤ v → pos 0 ≤ℤ f → pos 0 ≤ℤ s
        → pos 0 ≤ℤ (a *ℤ r +ℤ m *ℤ i) → pos 0 ≤ℤ (b *ℤ t +ℤ m *ℤ j) → pos 0 ≤ℤ (w *ℤ v -ℤ n *ℤ i) → pos 0 ≤ℤ (w *ℤ v -ℤ n *ℤ j)
        → pos 0 ≤ℤ (n *ℤ ((a *ℤ r +ℤ m *ℤ i) +ℤ (b *ℤ t +ℤ m *ℤ j)) +ℤ m *ℤ ((w *ℤ v -ℤ n *ℤ i) +ℤ (w *ℤ v -ℤ n *ℤ j)) +ℤ n *ℤ w *ℤ s +ℤ n *ℤ v *ℤ f)
    sum_nonnegative n m w v f s a b r t i j hn hm hw hv hf hs ha hb hi hj = search signs depth 20 fits 10000

-- the product of a number of a size at most n and any number
bounded_product : (n : ℕ) (a t : ℤ) → nat_abs a ≤ n → pos 0 ≤ℤ (a *ℤ t +ℤ pos n *ℤ pos (nat_abs t))
bounded_product n a t h = product_at_least (pos n) a t (pos (nat_abs t)) (bounded_below n a h) (bounded_above n a h) (size_below t) (size_above t)

-- no trace is negative near the members
pub near_is_weak : (z : ℤ) (cell : List HalfSpace) (p : RationalPoint) → IsNearAt z cell p → IsWeakAt z (traces z (with_sides cell)) p
near_is_weak z cell p n = record {
  point = n.point;
  height = n.height;
  weak = λ t l. ⊎_elim (λ (h : pos 0 ≤ℤ trace_value t p). h) (λ (h : trace_value t p <ℤ pos 0). absurd (far t l h)) (le_or_lt_ℤ (pos 0) (trace_value t p));
}
  where
    far : (t : Trace) → Listed t (traces z (with_sides cell)) → trace_value t p <ℤ pos 0 → ⊥
    far t l e =
        let m = nat_abs t.a + nat_abs t.b in
        let c = closeness 2 m p.w n.point in
        let r = n.close c.number c.positive in
        let q = r.0 in
        let k = held_at_of z cell q r.1 in
        not_too_near t.a t.b t.d p.x p.y p.w q.x q.y q.w (pos m) (pos (nat_abs (apart p.x p.w q.x q.w))) (pos (nat_abs (apart p.y p.w q.y q.w)))
        n.point k.point (nat_nonneg_ℤ m)
        (bounded_product m t.a (apart p.x p.w q.x q.w) (omega arith)) (bounded_product m t.b (apart p.y p.w q.y q.w) (omega arith))
        (subst (λ (v : ℤ). (v *ℤ pos (nat_abs (apart p.x p.w q.x q.w))) ≤ℤ (p.w *ℤ q.w)) c.is r.2.x)
        (subst (λ (v : ℤ). (v *ℤ pos (nat_abs (apart p.y p.w q.y q.w))) ≤ℤ (p.w *ℤ q.w)) c.is r.2.y)
        e (held_to t q (k.traces_hold t l)).least

-- ---- a point at which no trace is negative is near the members

-- the point near p, on the way from c, with p counted k times
abbrev near : ℕ → RationalPoint → RationalPoint → RationalPoint
near k c p = point_of (c.x +ℤ pos k *ℤ p.x) (c.y +ℤ pos k *ℤ p.y) (c.z +ℤ pos k *ℤ p.z) (c.w +ℤ pos k *ℤ p.w)

-- all traces are above 0 at the point near p
near_within : (z : ℤ) (ts : List Trace) (c p : RationalPoint) (k : ℕ) → IsWithinAll z ts c → IsWeakAt z ts p → IsWithinAll z ts (near k c p)
near_within z ts c p k w s = record {
  point = more_positive c.w (pos k) p.w w.point (nat_nonneg_ℤ k) (nonneg_of_pos_ℤ p.w s.point);
  height = (λ i. w.height i +ℤ pos k *ℤ s.height i) ∙ height_of z c.w (pos k) p.w;
  above = λ t l. subst (λ (v : ℤ). pos 0 <ℤ v) (sym (value_of t.a t.b t.d c.x c.y c.w (pos k) p.x p.y p.w)) (more_positive (trace_value t c) (pos k) (trace_value t p) (w.above t l) (nat_nonneg_ℤ k) (s.weak t l));
}
  where
    height_of : (z w m v : ℤ) → z *ℤ w +ℤ m *ℤ (z *ℤ v) ≡ z *ℤ (w +ℤ m *ℤ v)
    height_of z w m v = by_ring_at (z ∷ w ∷ m ∷ v ∷ []) (search reify depth 40 fits 100000) tt

    value_of : (a b d x y w m u v t : ℤ) → a *ℤ (x +ℤ m *ℤ u) +ℤ b *ℤ (y +ℤ m *ℤ v) +ℤ d *ℤ (w +ℤ m *ℤ t) ≡ (a *ℤ x +ℤ b *ℤ y +ℤ d *ℤ w) +ℤ m *ℤ (a *ℤ u +ℤ b *ℤ v +ℤ d *ℤ t)
    value_of a b d x y w m u v t = by_ring_at (a ∷ b ∷ d ∷ x ∷ y ∷ w ∷ m ∷ u ∷ v ∷ t ∷ []) (search reify depth 40 fits 100000) tt

-- members come as close to such a point as one likes
pub weak_is_near : (z : ℤ) (cell : List HalfSpace) (c p : RationalPoint) → IsHeight z → IsWithinAll z (traces z (with_sides cell)) c → LevelsHold z (with_sides cell) → IsWeakAt z (traces z (with_sides cell)) p → IsNearAt z cell p
weak_is_near z cell c p hz w levels s = record { point = s.point; height = s.height; close = close }
  where
    close : (n : ℕ) → 1 ≤ n → (q : RationalPoint) × IsMemberAt z cell q × IsCloseTo n p q
    close n h =
        let k = n * nat_abs (apart p.x p.w c.x c.w) + n * nat_abs (apart p.y p.w c.y c.w) + n * nat_abs (apart p.z p.w c.z c.w) in (
          near k c p,
          within_is_member z cell (near k c p) hz (near_within z (traces z (with_sides cell)) c p k w s) levels,
          record {
            x = near_close n k p.x p.w c.x c.w (omega arith) s.point w.point;
            y = near_close n k p.y p.w c.y c.w (omega arith) s.point w.point;
            z = near_close n k p.z p.w c.z c.w (omega arith) s.point w.point;
          },
        )

-- ---- the closure is on the left
-- the area of three points, from the values of two traces
area_of : (ea eb ed fa fb fd px py pw qx qy qw rx ry rw' : ℤ) →
    (ea *ℤ fb -ℤ fa *ℤ eb) *ℤ det3 px py pw qx qy qw rx ry rw'
    ≡ pw *ℤ ((ea *ℤ qx +ℤ eb *ℤ qy +ℤ ed *ℤ qw) *ℤ (fa *ℤ rx +ℤ fb *ℤ ry +ℤ fd *ℤ rw') -ℤ (ea *ℤ rx +ℤ eb *ℤ ry +ℤ ed *ℤ rw') *ℤ (fa *ℤ qx +ℤ fb *ℤ qy +ℤ fd *ℤ qw))
    -ℤ qw *ℤ ((ea *ℤ px +ℤ eb *ℤ py +ℤ ed *ℤ pw) *ℤ (fa *ℤ rx +ℤ fb *ℤ ry +ℤ fd *ℤ rw') -ℤ (ea *ℤ rx +ℤ eb *ℤ ry +ℤ ed *ℤ rw') *ℤ (fa *ℤ px +ℤ fb *ℤ py +ℤ fd *ℤ pw))
    +ℤ rw' *ℤ ((ea *ℤ px +ℤ eb *ℤ py +ℤ ed *ℤ pw) *ℤ (fa *ℤ qx +ℤ fb *ℤ qy +ℤ fd *ℤ qw) -ℤ (ea *ℤ qx +ℤ eb *ℤ qy +ℤ ed *ℤ qw) *ℤ (fa *ℤ px +ℤ fb *ℤ py +ℤ fd *ℤ pw))
area_of ea eb ed fa fb fd px py pw qx qy qw rx ry rw' = by_ring_at (ea ∷ eb ∷ ed ∷ fa ∷ fb ∷ fd ∷ px ∷ py ∷ pw ∷ qx ∷ qy ∷ qw ∷ rx ∷ ry ∷ rw' ∷ []) (search reify depth 60 fits 5000000) tt

-- what is left of it where three of the values are 0
area_left : (pw qw rw' ep eq er fp fq fr : ℤ) → ep ≡ pos 0 → fp ≡ pos 0 → fq ≡ pos 0
    → pw *ℤ (eq *ℤ fr -ℤ er *ℤ fq) -ℤ qw *ℤ (ep *ℤ fr -ℤ er *ℤ fp) +ℤ rw' *ℤ (ep *ℤ fq -ℤ eq *ℤ fp) ≡ pw *ℤ (eq *ℤ fr)
area_left pw qw rw' ep eq er fp fq fr zep zfp zfq =
    (λ i. pw *ℤ (eq *ℤ fr -ℤ er *ℤ zfq i) -ℤ qw *ℤ (zep i *ℤ fr -ℤ er *ℤ zfp i) +ℤ rw' *ℤ (zep i *ℤ zfq i -ℤ eq *ℤ zfp i))
    ∙ by_ring_at (pw ∷ qw ∷ rw' ∷ eq ∷ er ∷ fr ∷ []) (search reify depth 40 fits 100000) tt

-- a point at which no trace is negative is on the left of a turn
on_the_left : (z : ℤ) (ts : List Trace) (steps : List RingStep) → IsRingOf z ts steps → (p : RationalPoint) → IsWeakAt z ts p → (u : Turn) → Listed u (turns_of steps) → IsOnTheLeft u.step.end u.next.end p
on_the_left z ts steps ring p w u l =
    let j = joins steps u l in
    let k = ring.turns u l in
    let s = ring.each u.step j.step in
    let n = ring.each u.next j.next in
    let e = u.step.edge in
    let f = u.next.edge in
    let o = u.step.end in
    let q = u.next.end in
    let above = rises z ts steps ring u l in
    let part : pos 0 ≤ℤ (o.w *ℤ (trace_value e q *ℤ trace_value f p)) = mul_nonneg_ℤ o.w (trace_value e q *ℤ trace_value f p) (nonneg_of_pos_ℤ o.w s.end.point) (mul_nonneg_ℤ (trace_value e q) (trace_value f p) (nonneg_of_pos_ℤ (trace_value e q) above) (w.weak f n.edge)) in
    divided (cross e f) (det3 o.x o.y o.w q.x q.y q.w p.x p.y p.w) k.left
    (subst (λ (v : ℤ). pos 0 ≤ℤ v)
    (sym (area_of e.a e.b e.d f.a f.b f.d o.x o.y o.w q.x q.y q.w p.x p.y p.w
    ∙ area_left o.w q.w p.w (trace_value e o) (trace_value e q) (trace_value e p) (trace_value f o) (trace_value f q) (trace_value f p) k.on_edge k.on_next (on_edge z ts steps ring u.next j.next)))
    part)
  where
    divided : (c v : ℤ) → pos 0 <ℤ c → pos 0 ≤ℤ (c *ℤ v) → pos 0 ≤ℤ v
    divided c v h k = le_by_multiple (c ∷ v ∷ []) {k = c} h k (search reify depth 40 fits 100000) tt

-- the law
pub closure_is_on_the_left_spec : ClosureIsOnTheLeft
closure_is_on_the_left_spec z cell steps hz e p n =
    of_all (λ u. IsOnTheLeft u.step.end u.next.end p) (turns_of steps) (on_the_left z (traces z (with_sides cell)) steps (ring_to z cell steps e) p (near_is_weak z cell p n))
