-- Each linear function leans on a turn of the ring: its direction is a sum of multiples, not negative, of the two edges of a turn.
use Rattle.std.proofs.Common.{◌≡◌, ℤ, pos, neg_ℤ, ◌+ℤ◌, ◌-ℤ◌, ◌*ℤ◌, ◌≤ℤ◌, ◌<ℤ◌, true, List, [], ◌∷◌, ⊎_elim, length, refl, sym, ap, ◌∙◌, subst, arith}
use Rattle.std.specs.Prelude.{nat_le}
use Rattle.std.proofs.lemmas.Int.{ints}
use Rattle.rp_algebra.proofs.IntLaws.{linear, signs, le_or_lt_ℤ, trichotomy_ℤ, cancel_mul_left_ℤ, mul_pos_ℤ}
use Rattle.rp_algebra.proofs.Numbers.{zero_difference, zero_product}
use Rattle.rp_algebra.proofs.Reify.{by_ring_at, le_by_ring, le_by_multiple, reify}
use Rattle.rp_algebra.proofs.Listed.{Listed, first, later}
use Rattle.rp_geometry.specs.Geometry.{RationalPoint, IsPoint, SamePlace}
use Rattle.rp_geometry.specs.sections.Trace.{IsAtHeight, Trace, trace_value}
use Rattle.rp_geometry.specs.sections.Ring.{RingStep, Turn, turn_of, turns_of, cross}
use Rattle.rp_slice.proofs.Turns.{onward, backward, joins}
use Rattle.rp_slice.proofs.Rings.{same_lowest, IsRingOf, on_edge}

-- ---- the change of a trace's value from a point to another

-- the change from p to q, times both weights
abbrev pub change : Trace → RationalPoint → RationalPoint → ℤ
change t p q = p.w *ℤ trace_value t q -ℤ q.w *ℤ trace_value t p

-- three directions in the plane: the second cross product is a sum of the others
turning_of : (ea eb ed fa fb fd ta tb td x y w i j k : ℤ) →
    (ea *ℤ fb -ℤ fa *ℤ eb) *ℤ (w *ℤ (ta *ℤ i +ℤ tb *ℤ j +ℤ td *ℤ k) -ℤ k *ℤ (ta *ℤ x +ℤ tb *ℤ y +ℤ td *ℤ w))
    ≡ (ta *ℤ fb -ℤ fa *ℤ tb) *ℤ (w *ℤ (ea *ℤ i +ℤ eb *ℤ j +ℤ ed *ℤ k) -ℤ k *ℤ (ea *ℤ x +ℤ eb *ℤ y +ℤ ed *ℤ w))
    +ℤ (ea *ℤ tb -ℤ ta *ℤ eb) *ℤ (w *ℤ (fa *ℤ i +ℤ fb *ℤ j +ℤ fd *ℤ k) -ℤ k *ℤ (fa *ℤ x +ℤ fb *ℤ y +ℤ fd *ℤ w))
turning_of ea eb ed fa fb fd ta tb td x y w i j k = by_ring_at (ea ∷ eb ∷ ed ∷ fa ∷ fb ∷ fd ∷ ta ∷ tb ∷ td ∷ x ∷ y ∷ w ∷ i ∷ j ∷ k ∷ []) (search reify depth 40 fits 1000000) tt

-- the change of t is a sum of the changes of e and f
pub turning : (e f t : Trace) (p q : RationalPoint) → cross e f *ℤ change t p q ≡ cross t f *ℤ change e p q +ℤ cross e t *ℤ change f p q
turning e f t p q = turning_of e.a e.b e.d f.a f.b f.d t.a t.b t.d p.x p.y p.w q.x q.y q.w

-- the change from a point where the value is 0
pub change_from_zero : (t : Trace) (p q : RationalPoint) → trace_value t p ≡ pos 0 → change t p q ≡ p.w *ℤ trace_value t q
change_from_zero t p q e = ap (λ (v : ℤ). p.w *ℤ trace_value t q -ℤ q.w *ℤ v) e ∙ by_ring_at (p.w ∷ q.w ∷ trace_value t q ∷ []) (search reify depth 40 fits 100000) tt

-- the change between two points where the value is 0
pub no_change : (t : Trace) (p q : RationalPoint) → trace_value t p ≡ pos 0 → trace_value t q ≡ pos 0 → change t p q ≡ pos 0
no_change t p q ep eq = zero_difference p.w q.w (trace_value t q) (trace_value t p) eq ep

-- ---- two lines meet once

-- the change of x, from those of two traces
meet_x : (ea eb ed fa fb fd x y w i j k : ℤ) →
    (ea *ℤ fb -ℤ fa *ℤ eb) *ℤ (x *ℤ k -ℤ i *ℤ w)
    ≡ eb *ℤ (w *ℤ (fa *ℤ i +ℤ fb *ℤ j +ℤ fd *ℤ k) -ℤ k *ℤ (fa *ℤ x +ℤ fb *ℤ y +ℤ fd *ℤ w)) -ℤ fb *ℤ (w *ℤ (ea *ℤ i +ℤ eb *ℤ j +ℤ ed *ℤ k) -ℤ k *ℤ (ea *ℤ x +ℤ eb *ℤ y +ℤ ed *ℤ w))
meet_x ea eb ed fa fb fd x y w i j k = by_ring_at (ea ∷ eb ∷ ed ∷ fa ∷ fb ∷ fd ∷ x ∷ y ∷ w ∷ i ∷ j ∷ k ∷ []) (search reify depth 40 fits 1000000) tt

-- the change of y, from those of two traces
meet_y : (ea eb ed fa fb fd x y w i j k : ℤ) →
    (ea *ℤ fb -ℤ fa *ℤ eb) *ℤ (y *ℤ k -ℤ j *ℤ w)
    ≡ fa *ℤ (w *ℤ (ea *ℤ i +ℤ eb *ℤ j +ℤ ed *ℤ k) -ℤ k *ℤ (ea *ℤ x +ℤ eb *ℤ y +ℤ ed *ℤ w)) -ℤ ea *ℤ (w *ℤ (fa *ℤ i +ℤ fb *ℤ j +ℤ fd *ℤ k) -ℤ k *ℤ (fa *ℤ x +ℤ fb *ℤ y +ℤ fd *ℤ w))
meet_y ea eb ed fa fb fd x y w i j k = by_ring_at (ea ∷ eb ∷ ed ∷ fa ∷ fb ∷ fd ∷ x ∷ y ∷ w ∷ i ∷ j ∷ k ∷ []) (search reify depth 40 fits 1000000) tt

-- two numbers are equal where a multiple of their difference is 0
equal_by : (k u v n : ℤ) → pos 0 <ℤ k → k *ℤ (u -ℤ v) ≡ n → n ≡ pos 0 → u ≡ v
equal_by k u v n h e z =
    let d : u -ℤ v ≡ pos 0 = cancel_mul_left_ℤ k (u -ℤ v) (pos 0) h (e ∙ z ∙ sym (zero_product k (pos 0) refl)) in
    omega (arith, linear, d)

-- points of one height have equal z
pub same_height : (z : ℤ) (p q : RationalPoint) → IsAtHeight z p → IsAtHeight z q → p.z *ℤ q.w ≡ q.z *ℤ p.w
same_height z p q hp hq = (λ i. hp i *ℤ q.w) ∙ by_ring_at (z ∷ p.w ∷ q.w ∷ []) (search reify depth 40 fits 100000) tt ∙ (λ i. sym hq i *ℤ p.w)

-- two points of a height on two lines that cross are at one place
pub meet_once : (z : ℤ) (e f : Trace) (p q : RationalPoint) → IsAtHeight z p → IsAtHeight z q → pos 0 <ℤ cross e f
    → change e p q ≡ pos 0 → change f p q ≡ pos 0 → SamePlace p q
meet_once z e f p q hp hq c ee ef = record {
  x = equal_by (cross e f) (p.x *ℤ q.w) (q.x *ℤ p.w) _ c (meet_x e.a e.b e.d f.a f.b f.d p.x p.y p.w q.x q.y q.w) (zero_difference e.b f.b (change f p q) (change e p q) ef ee);
  y = equal_by (cross e f) (p.y *ℤ q.w) (q.y *ℤ p.w) _ c (meet_y e.a e.b e.d f.a f.b f.d p.x p.y p.w q.x q.y q.w) (zero_difference f.a e.a (change e p q) (change f p q) ee ef);
  z = same_height z p q hp hq;
}

-- ---- the least end

-- the end of s has a value at most that of the end of each step of the list
pub record Least (t : Trace) (steps : List RingStep) (s : RingStep) : Type 0 where
  pub listed : Listed s steps
  pub least : (q : RingStep) → Listed q steps → pos 0 ≤ℤ change t s.end q.end

-- the order of values is transitive
least_chain : (u v w k l m : ℤ) → pos 0 <ℤ k → pos 0 <ℤ l → pos 0 <ℤ m → pos 0 ≤ℤ (k *ℤ v -ℤ l *ℤ u) → pos 0 ≤ℤ (l *ℤ w -ℤ m *ℤ v) → pos 0 ≤ℤ (k *ℤ w -ℤ m *ℤ u)
least_chain u v w k l m hk hl hm a b =
    let c : pos 0 ≤ℤ (m *ℤ (k *ℤ v -ℤ l *ℤ u) +ℤ k *ℤ (l *ℤ w -ℤ m *ℤ v)) = search signs in
    le_by_multiple (u ∷ v ∷ w ∷ k ∷ l ∷ m ∷ []) {k = l} hl c (search reify depth 40 fits 100000) tt

-- no change from a point to itself
own_change : (u k : ℤ) → pos 0 ≤ℤ (k *ℤ u -ℤ k *ℤ u)
own_change u k = let z : pos 0 ≤ℤ pos 0 = omega (arith, ints) in le_by_ring (u ∷ k ∷ []) z (search reify depth 40 fits 100000) tt

-- the change back
change_back : (k l u v : ℤ) → (k *ℤ v -ℤ l *ℤ u) <ℤ pos 0 → pos 0 ≤ℤ (l *ℤ u -ℤ k *ℤ v)
change_back k l u v h = omega (arith, linear, h)

-- a step whose end has the least value, of a list that is not empty
pub least_end : (t : Trace) (a : RingStep) (steps : List RingStep) → ((s : RingStep) → Listed s (a ∷ steps) → IsPoint s.end) → (s : RingStep) × Least t (a ∷ steps) s
least_end t a [] w = (a, record { listed = first; least = alone })
  where
    alone : (q : RingStep) → Listed q (a ∷ []) → pos 0 ≤ℤ change t a.end q.end
    alone q first = own_change (trace_value t a.end) a.end.w
    alone q (later l) = elim l [ ]
least_end t a (b ∷ steps) w = choose (least_end t b steps (λ s l. w s (later l)))
  where
    kept : (m : RingStep) (k : Least t (b ∷ steps) m) → pos 0 ≤ℤ change t m.end a.end → (q : RingStep) → Listed q (a ∷ b ∷ steps) → pos 0 ≤ℤ change t m.end q.end
    kept m k h q first = h
    kept m k h q (later l) = k.least q l

    taken : (m : RingStep) (k : Least t (b ∷ steps) m) → change t m.end a.end <ℤ pos 0 → (q : RingStep) → Listed q (a ∷ b ∷ steps) → pos 0 ≤ℤ change t a.end q.end
    taken m k h q first = own_change (trace_value t a.end) a.end.w
    taken m k h q (later l) =
        least_chain (trace_value t a.end) (trace_value t m.end) (trace_value t q.end) a.end.w m.end.w q.end.w (w a first) (w m (later k.listed)) (w q (later l))
        (change_back m.end.w a.end.w (trace_value t m.end) (trace_value t a.end) h) (k.least q l)

    choose : (m : RingStep) × Least t (b ∷ steps) m → (s : RingStep) × Least t (a ∷ b ∷ steps) s
    choose r =
        ⊎_elim
        (λ h. (r.0, record { listed = later r.1.listed; least = kept r.0 r.1 h }))
        (λ h. (a, record { listed = first; least = taken r.0 r.1 h }))
        (le_or_lt_ℤ (pos 0) (change t r.0.end a.end))

-- ---- a turn on which a function leans

-- the direction of t stands between the edges of a turn
pub record Leans (steps : List RingStep) (t : Trace) : Type 0 where
  pub turn : Turn
  pub listed : Listed turn (turns_of steps)
  pub from : pos 0 ≤ℤ cross turn.step.edge t
  pub to : pos 0 ≤ℤ cross t turn.next.edge

module _ (z : ℤ) (ts : List Trace) (steps : List RingStep) (ring : IsRingOf z ts steps) where
  -- along a turn, the edge that is left rises
  pub rises : (u : Turn) → Listed u (turns_of steps) → pos 0 <ℤ trace_value u.step.edge u.next.end
  rises u l =
      let j = joins steps u l in
      let k = ring.turns u l in
      let s = ring.each u.step j.step in
      let n = ring.each u.next j.next in
      ⊎_elim
      (λ (low : trace_value u.step.edge u.next.end <ℤ pos 0). absurd (let h = n.weak u.step.edge s.edge in omega (arith, linear, low, h)))
      (λ r. ⊎_elim
      (λ (zero : trace_value u.step.edge u.next.end ≡ pos 0). absurd (k.apart (same_lowest u.step.end u.next.end s.end n.end
      (meet_once z u.step.edge u.next.edge u.step.end u.next.end s.height n.height k.left
      (no_change u.step.edge u.step.end u.next.end k.on_edge zero)
      (no_change u.next.edge u.step.end u.next.end k.on_next (on_edge z ts steps ring u.next j.next))))))
      (λ high. high) r)
      (trichotomy_ℤ (trace_value u.step.edge u.next.end) (pos 0))

  -- along a turn, the change of t has the sign of its turn to the next edge
  pub along_turn : (t : Trace) (u : Turn) → Listed u (turns_of steps)
      → cross u.step.edge u.next.edge *ℤ change t u.step.end u.next.end ≡ cross t u.next.edge *ℤ (u.step.end.w *ℤ trace_value u.step.edge u.next.end)
  along_turn t u l =
      let j = joins steps u l in
      let k = ring.turns u l in
      turning u.step.edge u.next.edge t u.step.end u.next.end
      ∙ (λ i. cross t u.next.edge *ℤ change_from_zero u.step.edge u.step.end u.next.end k.on_edge i
      +ℤ cross u.step.edge t *ℤ no_change u.next.edge u.step.end u.next.end k.on_next (on_edge z ts steps ring u.next j.next) i)
      ∙ last_zero (cross t u.next.edge *ℤ (u.step.end.w *ℤ trace_value u.step.edge u.next.end)) (cross u.step.edge t)
    where
      last_zero : (v k : ℤ) → v +ℤ k *ℤ pos 0 ≡ v
      last_zero v k = by_ring_at (v ∷ k ∷ []) (search reify depth 40 fits 100000) tt

  -- where t does not fall along the turn, it stands before the next edge
  pub before_next : (t : Trace) (u : Turn) → Listed u (turns_of steps) → pos 0 ≤ℤ change t u.step.end u.next.end → pos 0 ≤ℤ cross t u.next.edge
  before_next t u l h =
      let j = joins steps u l in
      let k = ring.turns u l in
      let s = ring.each u.step j.step in
      sign_of (cross u.step.edge u.next.edge) (change t u.step.end u.next.end) (cross t u.next.edge) (u.step.end.w *ℤ trace_value u.step.edge u.next.end)
      k.left (mul_pos_ℤ _ _ s.end.point (rises u l)) h (along_turn t u l)
    where
      sign_of : (c v d m : ℤ) → pos 0 <ℤ c → pos 0 <ℤ m → pos 0 ≤ℤ v → c *ℤ v ≡ d *ℤ m → pos 0 ≤ℤ d
      sign_of c v d m hc hm hv e =
          let n : pos 0 ≤ℤ (c *ℤ v) = search signs in
          let n' : pos 0 ≤ℤ (d *ℤ m) = subst (λ (x : ℤ). pos 0 ≤ℤ x) e n in
          le_by_multiple (d ∷ m ∷ []) {k = m} hm n' (search reify depth 40 fits 100000) tt

  -- where t does not rise along the turn, it stands behind the next edge
  pub behind_next : (t : Trace) (u : Turn) → Listed u (turns_of steps) → change t u.step.end u.next.end ≤ℤ pos 0 → pos 0 ≤ℤ cross u.next.edge t
  behind_next t u l h =
      let j = joins steps u l in
      let k = ring.turns u l in
      let s = ring.each u.step j.step in
      sign_of (cross u.step.edge u.next.edge) (change t u.step.end u.next.end) t.a t.b u.next.edge.a u.next.edge.b (u.step.end.w *ℤ trace_value u.step.edge u.next.end)
      k.left (mul_pos_ℤ _ _ s.end.point (rises u l)) h (along_turn t u l)
    where
      sign_of : (c v ta tb fa fb m : ℤ) → pos 0 <ℤ c → pos 0 <ℤ m → v ≤ℤ pos 0 → c *ℤ v ≡ (ta *ℤ fb -ℤ fa *ℤ tb) *ℤ m → pos 0 ≤ℤ (fa *ℤ tb -ℤ ta *ℤ fb)
      sign_of c v ta tb fa fb m hc hm hv e =
          let nv : pos 0 ≤ℤ neg_ℤ v = omega (arith, linear, hv) in
          let n : pos 0 ≤ℤ (c *ℤ neg_ℤ v) = search signs in
          let back : c *ℤ neg_ℤ v ≡ neg_ℤ (c *ℤ v) = by_ring_at (c ∷ v ∷ []) (search reify depth 40 fits 100000) tt in
          let n' : pos 0 ≤ℤ neg_ℤ ((ta *ℤ fb -ℤ fa *ℤ tb) *ℤ m) = subst (λ (x : ℤ). pos 0 ≤ℤ x) (back ∙ ap neg_ℤ e) n in
          le_by_multiple (ta ∷ tb ∷ fa ∷ fb ∷ m ∷ []) {k = m} hm n' (search reify depth 40 fits 100000) tt

  -- the change of t back
  change_turned : (t : Trace) (p q : RationalPoint) → pos 0 ≤ℤ change t p q → change t q p ≤ℤ pos 0
  change_turned t p q h = turned (p.w *ℤ trace_value t q) (q.w *ℤ trace_value t p) h
    where
      turned : (a b : ℤ) → pos 0 ≤ℤ (a -ℤ b) → (b -ℤ a) ≤ℤ pos 0
      turned a b h = omega (arith, linear, h)

  -- at the least end it leans on the turn
  leans_at : (t : Trace) (s : RingStep) → Least t steps s → Leans steps t
  leans_at t s m =
      let o = onward steps s m.listed in
      let b = backward steps s m.listed in
      let jo = joins steps (turn_of s o.to) o.listed in
      let jb = joins steps (turn_of b.from s) b.listed in
      record {
        turn = turn_of s o.to;
        listed = o.listed;
        from = behind_next t (turn_of b.from s) b.listed (change_turned t s.end b.from.end (m.least b.from jb.step));
        to = before_next t (turn_of s o.to) o.listed (m.least o.to jo.next);
      }

-- a ring is not empty
pub not_empty : (n : ℤ) → nat_le 3 (length {A = RingStep} []) ≡ true → ⊥
not_empty n e = cc

-- each function leans on a turn
pub leans_on : (z : ℤ) (ts : List Trace) (steps : List RingStep) → IsRingOf z ts steps → (t : Trace) → Leans steps t
leans_on z ts [] k t = absurd (not_empty z k.many)
leans_on z ts (a ∷ steps) k t = let m = least_end t a steps (λ s l. (k.each s l).end.point) in leans_at z ts (a ∷ steps) k t m.0 m.1
