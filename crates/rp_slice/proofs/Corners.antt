-- The ends of a ring are all corners of the closure of the section, and no other points.
use Rattle.std.proofs.Common.{◌≡◌, ℕ, ◌+◌, ◌≤◌, ℤ, pos, neg_ℤ, nat_abs, ◌+ℤ◌, ◌-ℤ◌, ◌*ℤ◌, ◌≤ℤ◌, ◌<ℤ◌, List, [], ◌∷◌, ◌⊎◌, inl, inr, ⊎_elim, refl, sym, ap, ◌∙◌, subst, arith}
use Rattle.std.proofs.lemmas.Int.{ints}
use Rattle.rp_algebra.proofs.IntLaws.{linear, signs, trichotomy_ℤ, cancel_mul_left_ℤ, mul_pos_ℤ, nonneg_of_pos_ℤ, le_or_lt_ℤ}
use Rattle.rp_algebra.proofs.Reify.{by_ring_at, le_by_ring, reify}
use Rattle.rp_algebra.proofs.Listed.{Listed, first, later}
use Rattle.rp_geometry.specs.Geometry.{RationalPoint, HalfSpace, IsPoint, SamePlace, point_of}
use Rattle.rp_geometry.specs.sections.Trace.{IsAtHeight, IsHeight, Trace, trace_value, with_sides}
use Rattle.rp_geometry.specs.laws.SectionLaws.{IsNearAt, mix, IsBetween, IsCornerAt, IsEnd, EndsAreTheCorners}
use Rattle.rp_geometry.specs.sections.Ring.{RingStep, Turn, turn_of, turns_of, cross}
use Rattle.rp_slice.proofs.Traces.{traces, trace_in}
use Rattle.rp_slice.proofs.Turns.{onward, backward, joins}
use Rattle.rp_slice.proofs.Rings.{LevelsHold, IsRingOf, ring_to, levels_to, on_edge}
use Rattle.rp_slice.proofs.Support.{no_change, meet_once, rises, leans_on, not_empty}
use Rattle.rp_slice.proofs.Holding.{value_by_edges}
use Rattle.rp_slice.proofs.Center.{within_all, center, some_part, value_above}
use Rattle.rp_slice.proofs.Spots.{IsWeakAt}
use Rattle.rp_slice.proofs.Closure.{near_is_weak, weak_is_near}

-- ---- values at one place

-- the values at two sets of numbers of one place
value_same_of : (a b d x y w u v t : ℤ) → x *ℤ t ≡ u *ℤ w → y *ℤ t ≡ v *ℤ w → t *ℤ (a *ℤ x +ℤ b *ℤ y +ℤ d *ℤ w) ≡ w *ℤ (a *ℤ u +ℤ b *ℤ v +ℤ d *ℤ t)
value_same_of a b d x y w u v t ex ey =
    by_ring_at (a ∷ b ∷ d ∷ x ∷ y ∷ w ∷ t ∷ []) {y = a *ℤ (x *ℤ t) +ℤ b *ℤ (y *ℤ t) +ℤ d *ℤ w *ℤ t} (search reify depth 40 fits 100000) tt
    ∙ (λ i. a *ℤ ex i +ℤ b *ℤ ey i +ℤ d *ℤ w *ℤ t)
    ∙ by_ring_at (a ∷ b ∷ d ∷ u ∷ v ∷ w ∷ t ∷ []) (search reify depth 40 fits 100000) tt

-- where a trace is 0 at a point it is 0 at its place
pub zero_same : (t : Trace) (p q : RationalPoint) → SamePlace p q → IsPoint p → trace_value t p ≡ pos 0 → trace_value t q ≡ pos 0
zero_same t p q s w z =
    cancel_mul_left_ℤ p.w (trace_value t q) (pos 0) w
    (sym (value_same_of t.a t.b t.d p.x p.y p.w q.x q.y q.w s.x s.y) ∙ ap (λ (v : ℤ). q.w *ℤ v) z ∙ by_ring_at (q.w ∷ p.w ∷ []) (search reify depth 40 fits 100000) tt)

-- the values at a mix
value_mix : (t : Trace) (k m : ℤ) (q r : RationalPoint) → trace_value t (mix k q m r) ≡ k *ℤ trace_value t q +ℤ m *ℤ trace_value t r
value_mix t k m q r = by_ring_at (t.a ∷ t.b ∷ t.d ∷ k ∷ m ∷ q.x ∷ q.y ∷ q.w ∷ r.x ∷ r.y ∷ r.w ∷ []) (search reify depth 40 fits 100000) tt

-- two multiples above 0 of numbers at least 0 that add up to 0
both_zero : (k m u v : ℤ) → pos 0 <ℤ k → pos 0 <ℤ m → pos 0 ≤ℤ u → pos 0 ≤ℤ v → k *ℤ u +ℤ m *ℤ v ≡ pos 0 → (u ≡ pos 0) × (v ≡ pos 0)
both_zero k m u v hk hm hu hv e =
    let a : pos 0 ≤ℤ (k *ℤ u) = search signs in
    let b : pos 0 ≤ℤ (m *ℤ v) = search signs in
    (cancel_mul_left_ℤ k u (pos 0) hk (left_zero (k *ℤ u) (m *ℤ v) a b e ∙ times_zero k), cancel_mul_left_ℤ m v (pos 0) hm (right_zero (k *ℤ u) (m *ℤ v) a b e ∙ times_zero m))
  where
    times_zero : (a : ℤ) → pos 0 ≡ a *ℤ pos 0
    times_zero a = by_ring_at (a ∷ []) (search reify depth 40 fits 100000) tt

    left_zero : (a b : ℤ) → pos 0 ≤ℤ a → pos 0 ≤ℤ b → a +ℤ b ≡ pos 0 → a ≡ pos 0
    left_zero a b h l e = omega (arith, linear, h, l, e)

    right_zero : (a b : ℤ) → pos 0 ≤ℤ a → pos 0 ≤ℤ b → a +ℤ b ≡ pos 0 → b ≡ pos 0
    right_zero a b h l e = omega (arith, linear, h, l, e)

-- ---- an end is a corner
module _ (z : ℤ) (ts : List Trace) (e f : Trace) (left : pos 0 <ℤ cross e f) (le : Listed e ts) (lf : Listed f ts) (p : RationalPoint) (wp : IsPoint p) (hp : IsAtHeight z p) (ep : trace_value e p ≡ pos 0) (fp : trace_value f p ≡ pos 0) where
  -- where p is between two points, a trace that is 0 at p is 0 at both
  zero_at_both : (t : Trace) → Listed t ts → trace_value t p ≡ pos 0 → (q r : RationalPoint) → IsWeakAt z ts q → IsWeakAt z ts r → IsBetween p q r → (trace_value t q ≡ pos 0) × (trace_value t r ≡ pos 0)
  zero_at_both t l tp q r wq wr b =
      both_zero b.of_first b.of_second (trace_value t q) (trace_value t r) b.first_positive b.second_positive (wq.weak t l) (wr.weak t l)
      (sym (value_mix t b.of_first b.of_second q r) ∙ zero_same t p (mix b.of_first q b.of_second r) b.place wp tp)

  -- so both are at the place of p
  end_alone : (q r : RationalPoint) → IsWeakAt z ts q → IsWeakAt z ts r → IsBetween p q r → SamePlace q p × SamePlace r p
  end_alone q r wq wr b =
      let a = zero_at_both e le ep q r wq wr b in
      let c = zero_at_both f lf fp q r wq wr b in (
        meet_once z e f q p wq.height hp left (no_change e q p a.0 ep) (no_change f q p c.0 fp),
        meet_once z e f r p wr.height hp left (no_change e r p a.1 ep) (no_change f r p c.1 fp),
      )

-- ---- a corner is an end

-- all traces of a list are above 0, or one is 0
all_or_zero : (p : RationalPoint) (steps : List RingStep) → ((s : RingStep) → Listed s steps → pos 0 ≤ℤ trace_value s.edge p)
    → ((s : RingStep) → Listed s steps → pos 0 <ℤ trace_value s.edge p) ⊎ ((s : RingStep) × Listed s steps × (trace_value s.edge p ≡ pos 0))
all_or_zero p [] h = inl (λ s l. elim l [ ])
all_or_zero p (r ∷ steps) h =
    ⊎_elim
    (λ (low : trace_value r.edge p <ℤ pos 0). absurd (let a = h r first in omega (arith, linear, low, a)))
    (λ o. ⊎_elim
    (λ zero. inr (r, first, zero))
    (λ high. ⊎_elim
    (λ (all : (s : RingStep) → Listed s steps → pos 0 <ℤ trace_value s.edge p). inl (every all high))
    (λ some. inr (some.0, later some.1, some.2))
    (all_or_zero p steps (λ s l. h s (later l)))) o)
    (trichotomy_ℤ (trace_value r.edge p) (pos 0))
  where
    every : ((s : RingStep) → Listed s steps → pos 0 <ℤ trace_value s.edge p) → pos 0 <ℤ trace_value r.edge p → (s : RingStep) → Listed s (r ∷ steps) → pos 0 <ℤ trace_value s.edge p
    every all high s first = high
    every all high s (later l) = all s l

-- ---- a point at which all edges are above 0 is no corner
-- the sizes of the values of the traces of a list
total : List Trace → RationalPoint → ℕ
total [] v = 0
total (t ∷ ts) v = nat_abs (trace_value t v) + total ts v

-- each of them is at most their sum
at_most_total : (ts : List Trace) (v : RationalPoint) (t : Trace) → Listed t ts → nat_abs (trace_value t v) ≤ total ts v
unfolding total
at_most_total [] v t l = elim l [ ]
at_most_total (u ∷ ts) v t first = omega arith
at_most_total (u ∷ ts) v t (later l) = let h = at_most_total ts v t l in omega (arith, h)

-- n times a number above 0, less a number of a size at most n, is not negative
many_times : (n : ℕ) (u v : ℤ) → pos 0 <ℤ u → nat_abs v ≤ n → pos 0 ≤ℤ (pos n *ℤ u -ℤ v)
many_times n u v hu hv =
    let a : pos 0 ≤ℤ (u -ℤ pos 1) = omega (arith, ints, hu) in
    let b : pos 0 ≤ℤ (pos n *ℤ (u -ℤ pos 1)) = of_signs (pos n) (u -ℤ pos 1) (omega (arith, ints)) a in
    let c : pos 0 ≤ℤ (pos n -ℤ v) = omega (arith, ints, hv) in
    summed (pos n) u v b c
  where
    of_signs : (n m : ℤ) → pos 0 ≤ℤ n → pos 0 ≤ℤ m → pos 0 ≤ℤ (n *ℤ m)
    of_signs n m h k = search signs

    summed : (n u v : ℤ) → pos 0 ≤ℤ (n *ℤ (u -ℤ pos 1)) → pos 0 ≤ℤ (n -ℤ v) → pos 0 ≤ℤ (n *ℤ u -ℤ v)
    summed n u v h k =
        let s : pos 0 ≤ℤ (n *ℤ (u -ℤ pos 1) +ℤ (n -ℤ v)) = omega (arith, linear, h, k) in
        le_by_ring (n ∷ u ∷ v ∷ []) s (search reify depth 40 fits 100000) tt

-- one more is above 0
many_above : (n : ℕ) (u v : ℤ) → pos 0 <ℤ u → nat_abs v ≤ n → pos 0 <ℤ (pos (1 + n) *ℤ u -ℤ v)
many_above n u v hu hv =
    let h = many_times n u v hu hv in
    let s : pos (1 + n) *ℤ u -ℤ v ≡ (pos n *ℤ u -ℤ v) +ℤ u = one_more (pos n) u v ∙ refl in
    omega (arith, linear, h, hu, s)
  where
    one_more : (n u v : ℤ) → (pos 1 +ℤ n) *ℤ u -ℤ v ≡ (n *ℤ u -ℤ v) +ℤ u
    one_more n u v = by_ring_at (n ∷ u ∷ v ∷ []) (search reify depth 40 fits 100000) tt

-- the point behind p, seen from v
abbrev behind : ℤ → RationalPoint → RationalPoint → RationalPoint
behind n p v = point_of (n *ℤ p.x -ℤ v.x) (n *ℤ p.y -ℤ v.y) (n *ℤ p.z -ℤ v.z) (n *ℤ p.w -ℤ v.w)

-- p is between v and the point behind it
behind_between : (n : ℤ) (p v : RationalPoint) → IsBetween p v (behind n p v)
behind_between n p v = record {
  of_first = pos 1;
  of_second = pos 1;
  first_positive = omega (arith, ints);
  second_positive = omega (arith, ints);
  place = record { x = one p.x v.x p.w v.w; y = one p.y v.y p.w v.w; z = one p.z v.z p.w v.w };
}
  where
    one : (x u w v : ℤ) → x *ℤ (pos 1 *ℤ v +ℤ pos 1 *ℤ (n *ℤ w -ℤ v)) ≡ (pos 1 *ℤ u +ℤ pos 1 *ℤ (n *ℤ x -ℤ u)) *ℤ w
    one x u w v = by_ring_at (n ∷ x ∷ u ∷ w ∷ v ∷ []) (search reify depth 40 fits 100000) tt

module _ (z : ℤ) (hs : List HalfSpace) (steps : List RingStep) (ring : IsRingOf z (traces z hs) steps) where
  -- where all edges are above 0, all traces are
  traces_above : (p : RationalPoint) → IsPoint p → ((s : RingStep) → Listed s steps → pos 0 <ℤ trace_value s.edge p) → (t : Trace) → Listed t (traces z hs) → pos 0 <ℤ trace_value t p
  traces_above p wp h t l =
      let k = leans_on z (traces z hs) steps ring t in
      let j = joins steps k.turn k.listed in
      let u = ring.turns k.turn k.listed in
      let s = ring.each k.turn.step j.step in
      parts (cross k.turn.step.edge k.turn.next.edge) (cross t k.turn.next.edge) (cross k.turn.step.edge t) k.turn.step.end.w p.w (trace_value t k.turn.step.end) (trace_value k.turn.step.edge p) (trace_value k.turn.next.edge p) (trace_value t p)
      u.left k.to k.from s.end.point wp (s.weak t l) (h k.turn.step j.step) (h k.turn.next j.next) (some_part k.turn.step.edge k.turn.next.edge t u.left (trace_in z hs t l).direction k.to k.from)
      (value_by_edges k.turn.step.edge k.turn.next.edge t k.turn.step.end p u.on_edge u.on_next)
    where
      parts : (c a b w x tp ec fc v : ℤ) → pos 0 <ℤ c → pos 0 ≤ℤ a → pos 0 ≤ℤ b → pos 0 <ℤ w → pos 0 <ℤ x → pos 0 ≤ℤ tp → pos 0 <ℤ ec → pos 0 <ℤ fc → (pos 0 <ℤ a) ⊎ (pos 0 <ℤ b)
          → c *ℤ (w *ℤ v) ≡ c *ℤ (x *ℤ tp) +ℤ (a *ℤ (w *ℤ ec) +ℤ b *ℤ (w *ℤ fc)) → pos 0 <ℤ v
      parts c a b w x tp ec fc v hc ha hb hw hx htp hec hfc o e =
          value_above c w v (c *ℤ (x *ℤ tp)) (a *ℤ (w *ℤ ec)) (b *ℤ (w *ℤ fc)) hc hw e (search signs) (search signs) (search signs)
          (⊎_elim (λ h. inl (mul_pos_ℤ a (w *ℤ ec) h (mul_pos_ℤ w ec hw hec))) (λ h. inr (mul_pos_ℤ b (w *ℤ fc) h (mul_pos_ℤ w fc hw hfc))) o)

  -- the number of times that p is counted
  abbrev times : RationalPoint → ℕ
  times v = total (traces z hs) v + nat_abs v.w

  -- at the point behind it no trace is negative
  behind_weak : (p v : RationalPoint) → IsPoint p → IsAtHeight z p → IsAtHeight z v → ((t : Trace) → Listed t (traces z hs) → pos 0 <ℤ trace_value t p) → IsWeakAt z (traces z hs) (behind (pos (1 + times v)) p v)
  behind_weak p v wp hp hv above =
      let n = pos (1 + times v) in
      record {
        point = many_above (times v) p.w v.w wp (omega arith);
        height = (λ i. n *ℤ hp i -ℤ hv i) ∙ height_of z n p.w v.w;
        weak = λ t l. subst (λ (x : ℤ). pos 0 ≤ℤ x) (sym (value_of t.a t.b t.d n p.x p.y p.w v.x v.y v.w))
            (nonneg_of_pos_ℤ _ (many_above (times v) (trace_value t p) (trace_value t v) (above t l) (let h = at_most_total (traces z hs) v t l in omega (arith, h))));
      }
    where
      height_of : (z n w v : ℤ) → n *ℤ (z *ℤ w) -ℤ z *ℤ v ≡ z *ℤ (n *ℤ w -ℤ v)
      height_of z n w v = by_ring_at (z ∷ n ∷ w ∷ v ∷ []) (search reify depth 40 fits 100000) tt

      value_of : (a b d n x y w r s t : ℤ) → a *ℤ (n *ℤ x -ℤ r) +ℤ b *ℤ (n *ℤ y -ℤ s) +ℤ d *ℤ (n *ℤ w -ℤ t) ≡ n *ℤ (a *ℤ x +ℤ b *ℤ y +ℤ d *ℤ w) -ℤ (a *ℤ r +ℤ b *ℤ s +ℤ d *ℤ t)
      value_of a b d n x y w r s t = by_ring_at (a ∷ b ∷ d ∷ n ∷ x ∷ y ∷ w ∷ r ∷ s ∷ t ∷ []) (search reify depth 40 fits 100000) tt

  -- ---- a point on an edge
  -- the weight of p, from those of the ends of the edge
  weight_of : (ea eb ed fa fb fd ga gb gd x y w : ℤ) →
      (ea *ℤ (fb *ℤ gd -ℤ gb *ℤ fd) -ℤ fa *ℤ (eb *ℤ gd -ℤ gb *ℤ ed) +ℤ ga *ℤ (eb *ℤ fd -ℤ fb *ℤ ed)) *ℤ w
      ≡ (fa *ℤ gb -ℤ ga *ℤ fb) *ℤ (ea *ℤ x +ℤ eb *ℤ y +ℤ ed *ℤ w) +ℤ (ga *ℤ eb -ℤ ea *ℤ gb) *ℤ (fa *ℤ x +ℤ fb *ℤ y +ℤ fd *ℤ w) +ℤ (ea *ℤ fb -ℤ fa *ℤ eb) *ℤ (ga *ℤ x +ℤ gb *ℤ y +ℤ gd *ℤ w)
  weight_of ea eb ed fa fb fd ga gb gd x y w = by_ring_at (ea ∷ eb ∷ ed ∷ fa ∷ fb ∷ fd ∷ ga ∷ gb ∷ gd ∷ x ∷ y ∷ w ∷ []) (search reify depth 40 fits 1000000) tt

  -- the weights are in proportion
  weights : (d a b c ep gp eq gP pw Pw Qw : ℤ) → pos 0 <ℤ gP → pos 0 <ℤ c → pos 0 <ℤ Pw → d *ℤ pw ≡ a *ℤ ep +ℤ b *ℤ pos 0 +ℤ c *ℤ gp → d *ℤ Pw ≡ a *ℤ pos 0 +ℤ b *ℤ pos 0 +ℤ c *ℤ gP → d *ℤ Qw ≡ a *ℤ eq +ℤ b *ℤ pos 0 +ℤ c *ℤ pos 0
      → pw *ℤ (gP *ℤ eq) ≡ (gp *ℤ eq) *ℤ Pw +ℤ (ep *ℤ gP) *ℤ Qw
  weights d a b c ep gp eq gP pw Pw Qw hg hc hP e1 e2 e3 =
      cancel_mul_left_ℤ d (pw *ℤ (gP *ℤ eq)) ((gp *ℤ eq) *ℤ Pw +ℤ (ep *ℤ gP) *ℤ Qw) positive
      (by_ring_at (d ∷ pw ∷ gP ∷ eq ∷ []) {y = (d *ℤ pw) *ℤ (gP *ℤ eq)} (search reify depth 40 fits 100000) tt
      ∙ (λ i. e1 i *ℤ (gP *ℤ eq))
      ∙ by_ring_at (a ∷ b ∷ c ∷ ep ∷ gp ∷ eq ∷ gP ∷ []) {y = (gp *ℤ eq) *ℤ (a *ℤ pos 0 +ℤ b *ℤ pos 0 +ℤ c *ℤ gP) +ℤ (ep *ℤ gP) *ℤ (a *ℤ eq +ℤ b *ℤ pos 0 +ℤ c *ℤ pos 0)} (search reify depth 40 fits 1000000) tt
      ∙ (λ i. (gp *ℤ eq) *ℤ sym e2 i +ℤ (ep *ℤ gP) *ℤ sym e3 i)
      ∙ by_ring_at (d ∷ gp ∷ eq ∷ Pw ∷ ep ∷ gP ∷ Qw ∷ []) (search reify depth 40 fits 100000) tt)
    where
      positive : pos 0 <ℤ d
      positive =
          let n : pos 0 <ℤ (c *ℤ gP) = mul_pos_ℤ c gP hc hg in
          let s : d *ℤ Pw ≡ c *ℤ gP = e2 ∙ by_ring_at (a ∷ b ∷ c ∷ gP ∷ []) (search reify depth 40 fits 100000) tt in
          of_product d Pw hP (subst (λ (x : ℤ). pos 0 <ℤ x) (sym s) n)
        where
          of_product : (d w : ℤ) → pos 0 <ℤ w → pos 0 <ℤ (d *ℤ w) → pos 0 <ℤ d
          of_product d w h k = ⊎_elim (λ (l : d ≤ℤ pos 0). absurd (contra d w l h k)) (λ g. g) (le_or_lt_ℤ d (pos 0))
            where
              contra : (d w : ℤ) → d ≤ℤ pos 0 → pos 0 <ℤ w → pos 0 <ℤ (d *ℤ w) → ⊥
              contra d w l h k =
                  let n : pos 0 ≤ℤ neg_ℤ d = omega (arith, linear, l) in
                  let m : pos 0 ≤ℤ (neg_ℤ d *ℤ w) = search signs in
                  let e : neg_ℤ d *ℤ w ≡ neg_ℤ (d *ℤ w) = by_ring_at (d ∷ w ∷ []) (search reify depth 40 fits 100000) tt in
                  omega (arith, linear, k, m, e)

  -- a trace before the next edge, along a turn: it is above 0 at the start of the edge
  falls_at : (u : Turn) → Listed u (turns_of steps) → (r : RingStep) → Listed (turn_of r u.step) (turns_of steps) → pos 0 <ℤ trace_value u.next.edge r.end
  falls_at u l r k =
      let j = joins steps (turn_of r u.step) k in
      let ju = joins steps u l in
      let t = ring.turns u l in
      let tr = ring.turns (turn_of r u.step) k in
      let w = (ring.each r j.step).weak u.next.edge (ring.each u.next ju.next).edge in
      ⊎_elim
      (λ (low : trace_value u.next.edge r.end <ℤ pos 0). absurd (omega (arith, linear, low, w)))
      (λ o. ⊎_elim
      (λ (zero : trace_value u.next.edge r.end ≡ pos 0). absurd (not_same zero))
      (λ high. high) o)
      (trichotomy_ℤ (trace_value u.next.edge r.end) (pos 0))
    where
      not_same : trace_value u.next.edge r.end ≡ pos 0 → ⊥
      not_same zero =
          let j = joins steps (turn_of r u.step) k in
          let t = ring.turns u l in
          let tr = ring.turns (turn_of r u.step) k in
          let s = meet_once z u.step.edge u.next.edge r.end u.step.end (ring.each r j.step).height (ring.each u.step j.next).height t.left (no_change u.step.edge r.end u.step.end tr.on_next t.on_edge) (no_change u.next.edge r.end u.step.end zero t.on_next) in
          let above = rises z (traces z hs) steps ring (turn_of r u.step) k in
          let z0 = zero_same r.edge r.end u.step.end s (ring.each r j.step).end.point tr.on_edge in
          omega (arith, linear, above, z0)

  -- a point on an edge that is at none of its ends is between them
  between_ends : (u : Turn) → Listed u (turns_of steps) → (r : RingStep) → Listed (turn_of r u.step) (turns_of steps) → (p : RationalPoint) → IsPoint p → IsAtHeight z p
      → trace_value u.step.edge p ≡ pos 0 → pos 0 <ℤ trace_value r.edge p → pos 0 <ℤ trace_value u.next.edge p → IsBetween p r.end u.step.end
  between_ends u l r k p wp hp fp ep gp =
      let j = joins steps (turn_of r u.step) k in
      let ju = joins steps u l in
      let t = ring.turns u l in
      let tr = ring.turns (turn_of r u.step) k in
      let e = r.edge in
      let f = u.step.edge in
      let g = u.next.edge in
      let P = r.end in
      let Q = u.step.end in
      let wP = (ring.each r j.step).end.point in
      let wQ = (ring.each u.step j.next).end.point in
      let eQ = rises z (traces z hs) steps ring (turn_of r u.step) k in
      let gP = falls_at u l r k in
      let m = trace_value g p *ℤ trace_value e Q in
      let n = trace_value e p *ℤ trace_value g P in
      let hm = mul_pos_ℤ (trace_value g p) (trace_value e Q) gp eQ in
      let hn = mul_pos_ℤ (trace_value e p) (trace_value g P) ep gP in
      let d = e.a *ℤ (f.b *ℤ g.d -ℤ g.b *ℤ f.d) -ℤ f.a *ℤ (e.b *ℤ g.d -ℤ g.b *ℤ e.d) +ℤ g.a *ℤ (e.b *ℤ f.d -ℤ f.b *ℤ e.d) in
      let a = f.a *ℤ g.b -ℤ g.a *ℤ f.b in
      let b = g.a *ℤ e.b -ℤ e.a *ℤ g.b in
      let w = weights d a b (cross e f) (trace_value e p) (trace_value g p) (trace_value e Q) (trace_value g P) p.w P.w Q.w gP tr.left wP
      (weight_of e.a e.b e.d f.a f.b f.d g.a g.b g.d p.x p.y p.w ∙ (λ i. a *ℤ trace_value e p +ℤ b *ℤ fp i +ℤ cross e f *ℤ trace_value g p))
      (weight_of e.a e.b e.d f.a f.b f.d g.a g.b g.d P.x P.y P.w ∙ (λ i. a *ℤ tr.on_edge i +ℤ b *ℤ tr.on_next i +ℤ cross e f *ℤ trace_value g P))
      (weight_of e.a e.b e.d f.a f.b f.d g.a g.b g.d Q.x Q.y Q.w ∙ (λ i. a *ℤ trace_value e Q +ℤ b *ℤ t.on_edge i +ℤ cross e f *ℤ t.on_next i)) in
      record {
        of_first = m;
        of_second = n;
        first_positive = hm;
        second_positive = hn;
        place = meet_once z e f p (mix m P n Q) hp
            ((λ i. m *ℤ (ring.each r j.step).height i +ℤ n *ℤ (ring.each u.step j.next).height i) ∙ height_of z m n P.w Q.w)
            tr.left
            (first_change (trace_value e p) (trace_value g P) (trace_value g p) (trace_value e Q) p.w P.w Q.w (trace_value e (mix m P n Q)) (value_mix e m n P Q ∙ (λ i. m *ℤ tr.on_edge i +ℤ n *ℤ trace_value e Q)) w)
            (no_change f p (mix m P n Q) fp (value_mix f m n P Q ∙ (λ i. m *ℤ tr.on_next i +ℤ n *ℤ t.on_edge i) ∙ both_gone m n));
      }
    where
      height_of : (z m n v w : ℤ) → m *ℤ (z *ℤ v) +ℤ n *ℤ (z *ℤ w) ≡ z *ℤ (m *ℤ v +ℤ n *ℤ w)
      height_of z m n v w = by_ring_at (z ∷ m ∷ n ∷ v ∷ w ∷ []) (search reify depth 40 fits 100000) tt

      both_gone : (m n : ℤ) → m *ℤ pos 0 +ℤ n *ℤ pos 0 ≡ pos 0
      both_gone m n = by_ring_at (m ∷ n ∷ []) (search reify depth 40 fits 100000) tt

      first_change : (ep gP gp eQ pw Pw Qw v : ℤ) → v ≡ (gp *ℤ eQ) *ℤ pos 0 +ℤ (ep *ℤ gP) *ℤ eQ → pw *ℤ (gP *ℤ eQ) ≡ (gp *ℤ eQ) *ℤ Pw +ℤ (ep *ℤ gP) *ℤ Qw
          → pw *ℤ v -ℤ ((gp *ℤ eQ) *ℤ Pw +ℤ (ep *ℤ gP) *ℤ Qw) *ℤ ep ≡ pos 0
      first_change ep gP gp eQ pw Pw Qw v ev e =
          (λ i. pw *ℤ ev i -ℤ sym e i *ℤ ep) ∙ by_ring_at (ep ∷ gP ∷ gp ∷ eQ ∷ pw ∷ []) (search reify depth 40 fits 100000) tt

-- a step whose end is at the place
end_listed : (p : RationalPoint) (steps : List RingStep) (s : RingStep) → Listed s steps → SamePlace s.end p → IsEnd p steps
end_listed p [] s l e = elim l [ ]
end_listed p (r ∷ steps) s first e = inl e
end_listed p (r ∷ steps) s (later l) e = inr (end_listed p steps s l e)

-- the step whose end it is
listed_end : (p : RationalPoint) (steps : List RingStep) → IsEnd p steps → (s : RingStep) × Listed s steps × SamePlace s.end p
listed_end p [] e = absurd e
listed_end p (r ∷ steps) e = ⊎_elim (λ h. (r, first, h)) (λ h. let k = listed_end p steps h in (k.0, later k.1, k.2)) e

-- a ring has a step
some_step : (z : ℤ) (ts : List Trace) (steps : List RingStep) → IsRingOf z ts steps → (s : RingStep) × Listed s steps
some_step z ts [] k = absurd (not_empty z k.many)
some_step z ts (s ∷ steps) k = (s, first)

module _ (z : ℤ) (cell : List HalfSpace) (steps : List RingStep) (hz : IsHeight z) (ring : IsRingOf z (traces z (with_sides cell)) steps) (levels : LevelsHold z (with_sides cell)) (p : RationalPoint) where
  -- no trace is negative at the ends
  end_weak : (s : RingStep) → Listed s steps → IsWeakAt z (traces z (with_sides cell)) s.end
  end_weak s l = let k = ring.each s l in record { point = k.end.point; height = k.height; weak = k.weak }

  -- a point at which no trace is negative is near
  weak_near : (q : RationalPoint) → IsWeakAt z (traces z (with_sides cell)) q → IsNearAt z cell q
  weak_near q w = weak_is_near z cell (center steps) q hz (within_all z (with_sides cell) steps ring) levels w

  -- ---- a corner is an end
  -- all edges are above 0: p is between an end and the point behind it
  not_inside : IsCornerAt z cell p → ((s : RingStep) → Listed s steps → pos 0 <ℤ trace_value s.edge p) → ⊥
  not_inside c above =
      let s = some_step z (traces z (with_sides cell)) steps ring in
      let v = s.0.end in
      let k = ring.each s.0 s.1 in
      let n = c.near in
      let b = behind_weak z (with_sides cell) steps ring p v n.point n.height k.height (traces_above z (with_sides cell) steps ring p n.point above) in
      let r = behind (pos (1 + times z (with_sides cell) steps ring v)) p v in
      let a = c.alone v r (weak_near v (end_weak s.0 s.1)) (weak_near r b) (behind_between (pos (1 + times z (with_sides cell) steps ring v)) p v) in
      let zero = zero_same s.0.edge v p a.0 k.end.point (on_edge z (traces z (with_sides cell)) steps ring s.0 s.1) in
      let h = above s.0 s.1 in
      omega (arith, linear, zero, h)

  -- one edge is 0: p is one of its ends
  on_an_edge : IsCornerAt z cell p → (s : RingStep) → Listed s steps → trace_value s.edge p ≡ pos 0 → IsEnd p steps
  on_an_edge c s l fp =
      let o = onward steps s l in
      let b = backward steps s l in
      let jo = joins steps (turn_of s o.to) o.listed in
      let jb = joins steps (turn_of b.from s) b.listed in
      let t = ring.turns (turn_of s o.to) o.listed in
      let tr = ring.turns (turn_of b.from s) b.listed in
      let n = c.near in
      let w = near_is_weak z cell p n in
      ⊎_elim
      (λ (low : trace_value b.from.edge p <ℤ pos 0). absurd (let h = w.weak b.from.edge (ring.each b.from jb.step).edge in omega (arith, linear, low, h)))
      (λ q. ⊎_elim
      (λ (zero : trace_value b.from.edge p ≡ pos 0). end_listed p steps b.from jb.step
      (meet_once z b.from.edge s.edge b.from.end p (ring.each b.from jb.step).height n.height tr.left (no_change b.from.edge b.from.end p tr.on_edge zero) (no_change s.edge b.from.end p tr.on_next fp)))
      (λ (ep : pos 0 <ℤ trace_value b.from.edge p). ⊎_elim
      (λ (low : trace_value o.to.edge p <ℤ pos 0). absurd (let h = w.weak o.to.edge (ring.each o.to jo.next).edge in omega (arith, linear, low, h)))
      (λ r. ⊎_elim
      (λ (zero : trace_value o.to.edge p ≡ pos 0). end_listed p steps s l
      (meet_once z s.edge o.to.edge s.end p (ring.each s l).height n.height t.left (no_change s.edge s.end p t.on_edge fp) (no_change o.to.edge s.end p t.on_next zero)))
      (λ (gp : pos 0 <ℤ trace_value o.to.edge p). end_listed p steps s l
      (c.alone b.from.end s.end (weak_near b.from.end (end_weak b.from jb.step)) (weak_near s.end (end_weak s l))
      (between_ends z (with_sides cell) steps ring (turn_of s o.to) o.listed b.from b.listed p n.point n.height fp ep gp)).1) r)
      (trichotomy_ℤ (trace_value o.to.edge p) (pos 0))) q)
      (trichotomy_ℤ (trace_value b.from.edge p) (pos 0))

  -- so a corner is an end
  corner_is_end : IsCornerAt z cell p → IsEnd p steps
  corner_is_end c =
      let w = near_is_weak z cell p c.near in
      ⊎_elim
      (λ (above : (s : RingStep) → Listed s steps → pos 0 <ℤ trace_value s.edge p). absurd (not_inside c above))
      (λ some. on_an_edge c some.0 some.1 some.2)
      (all_or_zero p steps (λ s l. w.weak s.edge (ring.each s l).edge))

  -- ---- an end is a corner
  -- the values at the place of an end
  weak_at_end : IsPoint p → (s : RingStep) → Listed s steps → SamePlace s.end p → IsWeakAt z (traces z (with_sides cell)) p
  weak_at_end wp s l e =
      let k = ring.each s l in
      record {
        point = wp;
        height = same_level s.end.z s.end.w p.z p.w k.end.point k.height e.z;
        weak = λ t i. same_least t.a t.b t.d s.end.x s.end.y s.end.w p.x p.y p.w k.end.point wp e.x e.y (k.weak t i);
      }
    where
      same_level : (v w u t : ℤ) → pos 0 <ℤ w → v ≡ z *ℤ w → v *ℤ t ≡ u *ℤ w → u ≡ z *ℤ t
      same_level v w u t hw ev e =
          cancel_mul_left_ℤ w u (z *ℤ t) hw (by_ring_at (w ∷ u ∷ []) {y = u *ℤ w} (search reify depth 40 fits 100000) tt ∙ sym e ∙ (λ i. ev i *ℤ t) ∙ by_ring_at (z ∷ w ∷ t ∷ []) (search reify depth 40 fits 100000) tt)

      same_least : (a b d x y w u v t : ℤ) → pos 0 <ℤ w → pos 0 <ℤ t → x *ℤ t ≡ u *ℤ w → y *ℤ t ≡ v *ℤ w → pos 0 ≤ℤ (a *ℤ x +ℤ b *ℤ y +ℤ d *ℤ w) → pos 0 ≤ℤ (a *ℤ u +ℤ b *ℤ v +ℤ d *ℤ t)
      same_least a b d x y w u v t hw ht ex ey h =
          divided w _ hw (subst (λ (n : ℤ). pos 0 ≤ℤ n) (value_same_of a b d x y w u v t ex ey) (times t _ ht h))
        where
          times : (t n : ℤ) → pos 0 <ℤ t → pos 0 ≤ℤ n → pos 0 ≤ℤ (t *ℤ n)
          times t n h k = search signs

          divided : (w n : ℤ) → pos 0 <ℤ w → pos 0 ≤ℤ (w *ℤ n) → pos 0 ≤ℤ n
          divided w n h k = ⊎_elim (λ (l : n <ℤ pos 0). absurd (contra w n h l k)) (λ g. g) (swapped (le_or_lt_ℤ (pos 0) n))
            where
              swapped : {A B : Type 0} → A ⊎ B → B ⊎ A
              swapped o = ⊎_elim inr inl o

              contra : (w n : ℤ) → pos 0 <ℤ w → n <ℤ pos 0 → pos 0 ≤ℤ (w *ℤ n) → ⊥
              contra w n h l k =
                  let m : pos 0 <ℤ neg_ℤ n = omega (arith, linear, l) in
                  let o : pos 0 <ℤ (w *ℤ neg_ℤ n) = mul_pos_ℤ w (neg_ℤ n) h m in
                  let e : w *ℤ neg_ℤ n ≡ neg_ℤ (w *ℤ n) = by_ring_at (w ∷ n ∷ []) (search reify depth 40 fits 100000) tt in
                  omega (arith, linear, k, o, e)

  -- so an end is a corner
  end_is_corner : IsPoint p → IsEnd p steps → IsCornerAt z cell p
  end_is_corner wp e =
      let k = listed_end p steps e in
      let s = k.0 in
      let l = k.1 in
      let w = weak_at_end wp s l k.2 in
      let o = onward steps s l in
      let jo = joins steps (turn_of s o.to) o.listed in
      let t = ring.turns (turn_of s o.to) o.listed in
      let ep = zero_same s.edge s.end p k.2 (ring.each s l).end.point t.on_edge in
      let fp = zero_same o.to.edge s.end p k.2 (ring.each s l).end.point t.on_next in
      record {
        near = weak_near p w;
        alone = λ q r nq nr b. end_alone z (traces z (with_sides cell)) s.edge o.to.edge t.left (ring.each s l).edge (ring.each o.to jo.next).edge p wp w.height ep fp q r (near_is_weak z cell q nq) (near_is_weak z cell r nr) b;
      }

-- the law
pub ends_are_the_corners_spec : EndsAreTheCorners
ends_are_the_corners_spec z cell steps hz e p w =
    let ring = ring_to z cell steps e in
    let levels = levels_to z cell steps e in
    (corner_is_end z cell steps hz ring levels p, end_is_corner z cell steps hz ring levels p w)
