-- Points of the height at which no trace is negative, and ways along a direction from one to another.
use Rattle.std.proofs.Common.{◌≡◌, ℤ, pos, neg_ℤ, ◌+ℤ◌, ◌-ℤ◌, ◌*ℤ◌, ◌≤ℤ◌, ◌<ℤ◌, true, List, [], ◌∷◌, ⊎_elim, refl, sym, ap, ◌∙◌, subst, arith}
use Rattle.std.proofs.lemmas.Int.{ints}
use Rattle.rp_algebra.proofs.IntLaws.{linear, signs, trichotomy_ℤ, cancel_mul_left_ℤ, mul_pos_ℤ, mul_comm_ℤ, nonneg_of_pos_ℤ}
use Rattle.rp_algebra.proofs.Reify.{by_ring_at, le_by_ring, le_by_multiple, lt_by_multiple, reify}
use Rattle.rp_algebra.proofs.Listed.{Listed, first, later, listed_right}
use Rattle.rp_geometry.specs.Geometry.{RationalPoint, HalfSpace, IsPoint, SamePlace, point_of, reduced_point, half_space_of, cube_bound}
use Rattle.rp_geometry.specs.sections.Trace.{IsAtHeight, Trace, trace_value, has_trace, cube_sides, with_sides, trace_at}
use Rattle.rp_geometry.specs.sections.Ring.{cross}
use Rattle.rp_convex.proofs.Lowest.{reduced_is}
use Rattle.rp_convex.proofs.LowestOne.{lowest_terms_are_one_spec}
use Rattle.rp_convex.proofs.Ratio.{left_at, ComesFirst, comes_first}
use Rattle.rp_slice.proofs.Traces.{IsDirection, direction_of, IsTraceAt, trace_at-is, traces, trace_listed}
use Rattle.rp_slice.proofs.Rings.{IsLowestPoint}

-- ---- spots

-- a point of the height at which no trace of the list is negative
pub record IsWeakAt (z : ℤ) (ts : List Trace) (p : RationalPoint) : Type 0 where
  pub point : IsPoint p
  pub height : IsAtHeight z p
  pub weak : (t : Trace) → Listed t ts → pos 0 ≤ℤ trace_value t p

-- the same, in lowest terms
pub record IsSpot (z : ℤ) (ts : List Trace) (p : RationalPoint) : Type 0 where
  pub lowest : IsLowestPoint p
  pub height : IsAtHeight z p
  pub weak : (t : Trace) → Listed t ts → pos 0 ≤ℤ trace_value t p

-- a spot is such a point
pub weak_of : (z : ℤ) (ts : List Trace) (p : RationalPoint) → IsSpot z ts p → IsWeakAt z ts p
weak_of z ts p s = record { point = s.lowest.point; height = s.height; weak = s.weak }

-- the values at a point are those at the point in lowest terms, times a factor above 0
pub record IsScaled (p r : RationalPoint) : Type 0 where
  pub factor : ℤ
  pub positive : pos 0 <ℤ factor
  pub value : (t : Trace) → factor *ℤ trace_value t r ≡ trace_value t p

-- a factor of a product above 0, where the other is above 0
pub other_factor : (k v : ℤ) → pos 0 <ℤ k → pos 0 <ℤ (k *ℤ v) → pos 0 <ℤ v
other_factor k v hk h = lt_by_multiple (k ∷ v ∷ []) {k = k} (nonneg_of_pos_ℤ k hk) h (search reify depth 40 fits 100000) tt

-- a factor at least 0 of a product at least 0
pub other_least : (k v : ℤ) → pos 0 <ℤ k → pos 0 ≤ℤ (k *ℤ v) → pos 0 ≤ℤ v
other_least k v hk h = le_by_multiple (k ∷ v ∷ []) {k = k} hk h (search reify depth 40 fits 100000) tt

-- the values of multiples
pub value_of_multiple : (a b d x y w f : ℤ) → f *ℤ (a *ℤ x +ℤ b *ℤ y +ℤ d *ℤ w) ≡ a *ℤ (x *ℤ f) +ℤ b *ℤ (y *ℤ f) +ℤ d *ℤ (w *ℤ f)
value_of_multiple a b d x y w f = by_ring_at (a ∷ b ∷ d ∷ x ∷ y ∷ w ∷ f ∷ []) (search reify depth 40 fits 100000) tt

-- so it is in lowest terms
abbrev pub scaled : (p : RationalPoint) → IsPoint p → IsScaled p (reduced_point p)
scaled p h =
    let k = reduced_is p h in
    let m = k.multiple in
    let r = reduced_point p in
    record {
      factor = m.factor;
      positive = other_factor r.w m.factor k.point (subst (λ (x : ℤ). pos 0 <ℤ x) (sym m.w) h);
      value = λ t. value_of_multiple t.a t.b t.d r.x r.y r.w m.factor ∙ (λ i. t.a *ℤ m.x i +ℤ t.b *ℤ m.y i +ℤ t.d *ℤ m.w i);
    }

-- a point in lowest terms is at the place of the point
pub place_of_reduced : (p : RationalPoint) → IsPoint p → SamePlace (reduced_point p) p
place_of_reduced p h =
    let m = (reduced_is p h).multiple in
    let r = reduced_point p in
    record { x = across r.x r.w m.factor p.x p.w m.x m.w; y = across r.y r.w m.factor p.y p.w m.y m.w; z = across r.z r.w m.factor p.z p.w m.z m.w }
  where
    across : (x w f u v : ℤ) → x *ℤ f ≡ u → w *ℤ f ≡ v → x *ℤ v ≡ u *ℤ w
    across x w f u v ex ew = (λ i. x *ℤ sym ew i) ∙ by_ring_at (x ∷ w ∷ f ∷ []) (search reify depth 40 fits 100000) tt ∙ (λ i. ex i *ℤ w)

-- it is in lowest terms
pub reduced_lowest : (p : RationalPoint) → IsPoint p → IsLowestPoint (reduced_point p)
reduced_lowest p h = let k = (reduced_is p h).point in record { point = k; lowest = lowest_terms_are_one_spec (reduced_point p) p k h (place_of_reduced p h) }

-- and at the height
pub reduced_height : (z : ℤ) (p : RationalPoint) → IsPoint p → IsAtHeight z p → IsAtHeight z (reduced_point p)
reduced_height z p h e =
    let k = scaled p h in
    let m = (reduced_is p h).multiple in
    let r = reduced_point p in
    cancel_mul_left_ℤ m.factor r.z (z *ℤ r.w) k.positive (mul_comm_ℤ m.factor r.z ∙ m.z ∙ e ∙ ap (λ (x : ℤ). z *ℤ x) (sym m.w) ∙ by_ring_at (z ∷ r.w ∷ m.factor ∷ []) (search reify depth 40 fits 100000) tt)

-- a point at which no trace is negative is a spot in lowest terms
pub spot_of : (z : ℤ) (ts : List Trace) (p : RationalPoint) → IsWeakAt z ts p → IsSpot z ts (reduced_point p)
spot_of z ts p k =
    let s = scaled p k.point in
    record {
      lowest = reduced_lowest p k.point;
      height = reduced_height z p k.point k.height;
      weak = λ t l. other_least s.factor (trace_value t (reduced_point p)) s.positive (subst (λ (x : ℤ). pos 0 ≤ℤ x) (sym (s.value t)) (k.weak t l));
    }

-- ---- ways

-- the values change on the way from q to r along e as they do: m t(r) = k t(q) - u (e x t)
pub record Ahead (e : Trace) (q r : RationalPoint) : Type 0 where
  pub k : ℤ
  pub u : ℤ
  pub m : ℤ
  pub k_positive : pos 0 <ℤ k
  pub u_positive : pos 0 <ℤ u
  pub m_positive : pos 0 <ℤ m
  pub is : (t : Trace) → m *ℤ trace_value t r ≡ k *ℤ trace_value t q -ℤ u *ℤ cross e t

-- the value of e itself stays 0
pub ahead_own : (e : Trace) (q r : RationalPoint) → Ahead e q r → trace_value e q ≡ pos 0 → trace_value e r ≡ pos 0
ahead_own e q r w z = cancel_mul_left_ℤ w.m (trace_value e r) (pos 0) w.m_positive (w.is e ∙ (λ i. w.k *ℤ z i -ℤ w.u *ℤ cross e e) ∙ by_ring_at (w.k ∷ w.u ∷ w.m ∷ e.a ∷ e.b ∷ []) (search reify depth 40 fits 100000) tt)

-- a trace to the right of which the way goes rises
rises_of : (k u m v x tq tr c d : ℤ) → pos 0 <ℤ k → pos 0 <ℤ u → pos 0 <ℤ m → pos 0 ≤ℤ tq → pos 0 <ℤ c → d ≡ neg_ℤ c → m *ℤ tr ≡ k *ℤ tq -ℤ u *ℤ d → pos 0 <ℤ tr
rises_of k u m v x tq tr c d hk hu hm hq hc ed e =
    let n : pos 0 <ℤ (k *ℤ tq +ℤ u *ℤ c) = add_pos (k *ℤ tq) (u *ℤ c) (let s : pos 0 ≤ℤ (k *ℤ tq) = search signs in s) (mul_pos_ℤ u c hu hc) in
    let f : k *ℤ tq -ℤ u *ℤ d ≡ k *ℤ tq +ℤ u *ℤ c = (λ i. k *ℤ tq -ℤ u *ℤ ed i) ∙ by_ring_at (k ∷ tq ∷ u ∷ c ∷ []) (search reify depth 40 fits 100000) tt in
    other_factor m tr hm (subst (λ (y : ℤ). pos 0 <ℤ y) (sym (e ∙ f)) n)
  where
    add_pos : (a b : ℤ) → pos 0 ≤ℤ a → pos 0 <ℤ b → pos 0 <ℤ (a +ℤ b)
    add_pos a b h l = omega (arith, linear, h, l)

-- the cross product the other way round
pub cross_turned : (e f : Trace) → cross f e ≡ neg_ℤ (cross e f)
cross_turned e f = by_ring_at (e.a ∷ e.b ∷ f.a ∷ f.b ∷ []) (search reify depth 40 fits 100000) tt

-- on a way along f, a trace e before f rises
pub ahead_rises : (e f : Trace) (q r : RationalPoint) → Ahead f q r → pos 0 ≤ℤ trace_value e q → pos 0 <ℤ cross e f → pos 0 <ℤ trace_value e r
ahead_rises e f q r w h c = rises_of w.k w.u w.m (pos 0) (pos 0) (trace_value e q) (trace_value e r) (cross e f) (cross f e) w.k_positive w.u_positive w.m_positive h c (cross_turned e f) (w.is e)

-- on a way along e, a trace behind e that is not negative at the end is above 0 at the start
pub ahead_above : (e t : Trace) (q r : RationalPoint) → Ahead e q r → pos 0 ≤ℤ trace_value t r → pos 0 <ℤ cross e t → pos 0 <ℤ trace_value t q
ahead_above e t q r w h c = above_of w.k w.u w.m (trace_value t q) (trace_value t r) (cross e t) w.k_positive w.u_positive w.m_positive h c (w.is t)
  where
    above_of : (k u m tq tr c : ℤ) → pos 0 <ℤ k → pos 0 <ℤ u → pos 0 <ℤ m → pos 0 ≤ℤ tr → pos 0 <ℤ c → m *ℤ tr ≡ k *ℤ tq -ℤ u *ℤ c → pos 0 <ℤ tq
    above_of k u m tq tr c hk hu hm hr hc e =
        let n : pos 0 ≤ℤ (m *ℤ tr) = search signs in
        let o : pos 0 <ℤ (u *ℤ c) = mul_pos_ℤ u c hu hc in
        other_factor k tq hk (omega (arith, linear, n, o, e))

-- where e is 0 at both ends of a way along f, e and f are parallel
pub ahead_parallel : (e f : Trace) (q r : RationalPoint) → Ahead f q r → trace_value e q ≡ pos 0 → trace_value e r ≡ pos 0 → cross f e ≡ pos 0
ahead_parallel e f q r w zq zr =
    cancel_mul_left_ℤ w.u (cross f e) (pos 0) w.u_positive
    (solved (w.m *ℤ pos 0) (w.k *ℤ pos 0) (w.u *ℤ cross f e) ((λ i. w.m *ℤ sym zr i) ∙ w.is e ∙ (λ i. w.k *ℤ zq i -ℤ w.u *ℤ cross f e)) (times_zero w.m) (times_zero w.k) ∙ sym (times_zero w.u))
  where
    times_zero : (a : ℤ) → a *ℤ pos 0 ≡ pos 0
    times_zero a = by_ring_at (a ∷ []) (search reify depth 40 fits 100000) tt

    solved : (a b c : ℤ) → a ≡ b -ℤ c → a ≡ pos 0 → b ≡ pos 0 → c ≡ pos 0
    solved a b c e za zb = omega (arith, linear, e, za, zb)

-- ---- the first trace that a way along e meets

-- a trace that falls along e, met while no trace is negative
pub record FirstMet (ts : List Trace) (e : Trace) (q : RationalPoint) : Type 0 where
  pub by : Trace
  pub listed : Listed by ts
  pub falls : pos 0 <ℤ cross e by
  pub stays : (t : Trace) → Listed t ts → pos 0 ≤ℤ (cross e by *ℤ trace_value t q -ℤ trace_value by q *ℤ cross e t)

-- one of the sides of the cube
side_trace : (z : ℤ) (cell : List HalfSpace) (h : HalfSpace) → Listed h cube_sides → has_trace h ≡ true → (t : Trace) × Listed t (traces z (with_sides cell)) × IsTraceAt z h t
side_trace z cell h l e = (trace_at z h, trace_listed z (with_sides cell) h (listed_right h cell cube_sides l) e, trace_at-is z h (direction_of h e))

-- the cross product with a half-space, from that with its trace
cross_by : (z : ℤ) (h : HalfSpace) (t e : Trace) → IsTraceAt z h t → pos 0 <ℤ (e.a *ℤ h.b -ℤ h.a *ℤ e.b) → pos 0 <ℤ cross e t
cross_by z h t e k n =
    other_factor k.factor (cross e t) k.positive
    (subst (λ (x : ℤ). pos 0 <ℤ x) ((λ i. e.a *ℤ sym k.b i -ℤ sym k.a i *ℤ e.b) ∙ by_ring_at (k.factor ∷ e.a ∷ e.b ∷ t.a ∷ t.b ∷ []) (search reify depth 40 fits 100000) tt) n)

-- some trace of the list turns to the left of e
pub some_left : (z : ℤ) (cell : List HalfSpace) (e : Trace) → IsDirection e.a e.b → (t : Trace) × Listed t (traces z (with_sides cell)) × (pos 0 <ℤ cross e t)
some_left z cell e n =
    ⊎_elim
    (λ (l : e.a <ℤ pos 0). by_side (half_space_of (pos 0) (neg_ℤ (pos 1)) (pos 0) cube_bound) (later (later (later first))) refl (below_a e.a e.b l))
    (λ r. ⊎_elim
    (λ (za : e.a ≡ pos 0). ⊎_elim
    (λ (l : e.b <ℤ pos 0). by_side (half_space_of (pos 1) (pos 0) (pos 0) cube_bound) first refl (below_b e.a e.b l))
    (λ q. ⊎_elim
    (λ (zb : e.b ≡ pos 0). absurd (n za zb))
    (λ g. by_side (half_space_of (neg_ℤ (pos 1)) (pos 0) (pos 0) cube_bound) (later first) refl (above_b e.a e.b g)) q)
    (trichotomy_ℤ e.b (pos 0)))
    (λ g. by_side (half_space_of (pos 0) (pos 1) (pos 0) cube_bound) (later (later first)) refl (above_a e.a e.b g)) r)
    (trichotomy_ℤ e.a (pos 0))
  where
    by_side : (h : HalfSpace) → Listed h cube_sides → has_trace h ≡ true → pos 0 <ℤ (e.a *ℤ h.b -ℤ h.a *ℤ e.b) → (t : Trace) × Listed t (traces z (with_sides cell)) × (pos 0 <ℤ cross e t)
    by_side h l k c = let s = side_trace z cell h l k in (s.0, s.1, cross_by z h s.0 e s.2 c)

    below_a : (a b : ℤ) → a <ℤ pos 0 → pos 0 <ℤ (a *ℤ neg_ℤ (pos 1) -ℤ pos 0 *ℤ b)
    below_a a b h = omega (arith, ints)

    below_b : (a b : ℤ) → b <ℤ pos 0 → pos 0 <ℤ (a *ℤ pos 0 -ℤ pos 1 *ℤ b)
    below_b a b h = omega (arith, ints)

    above_b : (a b : ℤ) → pos 0 <ℤ b → pos 0 <ℤ (a *ℤ pos 0 -ℤ neg_ℤ (pos 1) *ℤ b)
    above_b a b h = omega (arith, ints)

    above_a : (a b : ℤ) → pos 0 <ℤ a → pos 0 <ℤ (a *ℤ pos 1 -ℤ pos 0 *ℤ b)
    above_a a b h = omega (arith, ints)

-- a way along e meets some trace first
pub first_met : (z : ℤ) (cell : List HalfSpace) (e : Trace) (q : RationalPoint) → IsDirection e.a e.b → IsWeakAt z (traces z (with_sides cell)) q → FirstMet (traces z (with_sides cell)) e q
first_met z cell e q n k =
    let ts = traces z (with_sides cell) in
    let s = some_left z cell e n in
    ⊎_elim
    (λ (none : (t : Trace) → Listed t ts → pos 0 ≤ℤ neg_ℤ (cross e t)). absurd (not_both (cross e s.0) s.2 (none s.0 s.1)))
    (λ (g : ComesFirst (λ t. trace_value t q) (λ t. neg_ℤ (cross e t)) ts). record {
      by = g.item;
      listed = g.listed;
      falls = unnegated (cross e g.item) g.falls;
      stays = λ t l. turned (cross e g.item) (trace_value t q) (trace_value g.item q) (cross e t) (g.stays t l);
    })
    (comes_first (λ t. trace_value t q) (λ t. neg_ℤ (cross e t)) ts k.weak)
  where
    not_both : (c : ℤ) → pos 0 <ℤ c → pos 0 ≤ℤ neg_ℤ c → ⊥
    not_both c h l = omega (arith, linear, h, l)

    unnegated : (c : ℤ) → neg_ℤ c <ℤ pos 0 → pos 0 <ℤ c
    unnegated c h = omega (arith, linear, h)

    turned : (c v u d : ℤ) → pos 0 ≤ℤ left_at u (neg_ℤ c) v (neg_ℤ d) → pos 0 ≤ℤ (c *ℤ v -ℤ u *ℤ d)
    turned c v u d h = le_by_ring (c ∷ v ∷ u ∷ d ∷ []) h (search reify depth 40 fits 100000) tt

-- ---- the point where it is met

-- the point to which the way along e leads where it meets the trace f
abbrev pub met_point : ℤ → Trace → Trace → RationalPoint → RationalPoint
met_point z e f q = point_of (cross e f *ℤ q.x +ℤ trace_value f q *ℤ e.b) (cross e f *ℤ q.y -ℤ trace_value f q *ℤ e.a) (z *ℤ (cross e f *ℤ q.w)) (cross e f *ℤ q.w)

-- the value of a trace there
pub met_value : (k u ea eb ta tb td x y w : ℤ) → ta *ℤ (k *ℤ x +ℤ u *ℤ eb) +ℤ tb *ℤ (k *ℤ y -ℤ u *ℤ ea) +ℤ td *ℤ (k *ℤ w) ≡ k *ℤ (ta *ℤ x +ℤ tb *ℤ y +ℤ td *ℤ w) -ℤ u *ℤ (ea *ℤ tb -ℤ ta *ℤ eb)
met_value k u ea eb ta tb td x y w = by_ring_at (k ∷ u ∷ ea ∷ eb ∷ ta ∷ tb ∷ td ∷ x ∷ y ∷ w ∷ []) (search reify depth 40 fits 100000) tt

module _ (z : ℤ) (ts : List Trace) (e : Trace) (q : RationalPoint) (k : IsWeakAt z ts q) (f : FirstMet ts e q) (u : pos 0 <ℤ trace_value f.by q) where
  -- the point is one at which no trace is negative
  pub met_weak : IsWeakAt z ts (met_point z e f.by q)
  met_weak = record {
    point = mul_pos_ℤ (cross e f.by) q.w f.falls k.point;
    height = refl;
    weak = λ t l. subst (λ (x : ℤ). pos 0 ≤ℤ x) (sym (met_value (cross e f.by) (trace_value f.by q) e.a e.b t.a t.b t.d q.x q.y q.w)) (f.stays t l);
  }

  -- in lowest terms it is a spot
  pub met_spot : IsSpot z ts (reduced_point (met_point z e f.by q))
  met_spot = spot_of z ts (met_point z e f.by q) met_weak

  -- and the way goes there
  abbrev pub met_ahead : Ahead e q (reduced_point (met_point z e f.by q))
  met_ahead =
      let s = scaled (met_point z e f.by q) met_weak.point in
      record {
        k = cross e f.by;
        u = trace_value f.by q;
        m = s.factor;
        k_positive = f.falls;
        u_positive = u;
        m_positive = s.positive;
        is = λ t. s.value t ∙ met_value (cross e f.by) (trace_value f.by q) e.a e.b t.a t.b t.d q.x q.y q.w;
      }

  -- where f is 0
  pub met_zero : trace_value f.by (reduced_point (met_point z e f.by q)) ≡ pos 0
  met_zero =
      let w = met_ahead in
      cancel_mul_left_ℤ w.m (trace_value f.by (reduced_point (met_point z e f.by q))) (pos 0) w.m_positive
      (w.is f.by ∙ by_ring_at (cross e f.by ∷ trace_value f.by q ∷ w.m ∷ []) (search reify depth 40 fits 100000) tt)
