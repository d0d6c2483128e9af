-- Where there is a ring, the members at the height are exactly the points there that all edges hold.
use Rattle.std.proofs.Common.{◌≡◌, ℤ, pos, ◌+ℤ◌, ◌-ℤ◌, ◌*ℤ◌, ◌≤ℤ◌, ◌<ℤ◌, true, List, [], ◌∷◌, ◌⊎◌, inl, inr, ⊎_elim, sym, ap, ◌∙◌, subst, arith}
use Rattle.std.specs.Prelude.{IsTrue}
use Rattle.rp_algebra.proofs.IntLaws.{linear, signs, mul_eq_zero_ℤ, mul_pos_ℤ}
use Rattle.rp_algebra.proofs.Reify.{by_ring_at, le_by_multiple, reify}
use Rattle.rp_algebra.proofs.Listed.{Listed, all_of, of_all}
use Rattle.rp_geometry.specs.Geometry.{RationalPoint, HalfSpace, IsPoint}
use Rattle.rp_geometry.specs.laws.SectionLaws.{RingHoldsTheMembers}
use Rattle.rp_geometry.specs.sections.Trace.{Trace, trace_value, trace_holds, with_sides}
use Rattle.rp_geometry.specs.sections.Ring.{RingStep, cross}
use Rattle.rp_slice.proofs.Traces.{IsDirection, traces, trace_in}
use Rattle.rp_slice.proofs.Turns.{joins}
use Rattle.rp_slice.proofs.Rings.{IsRingOf, ring_to, levels_to}
use Rattle.rp_slice.proofs.Support.{turning, change_from_zero, leans_on}
use Rattle.rp_slice.proofs.Owned.{IsFirst, IsNotLast, not_last_times, not_last_sum, first_of_multiple, IsHeldBy, held_to, held_from}
use Rattle.rp_slice.proofs.Members.{held_at_of, of_held_at}

-- ---- what two edges hold, a trace between them holds

-- the value at q, from those of the edges there and its own at the end
pub value_by_edges : (e f t : Trace) (p q : RationalPoint) → trace_value e p ≡ pos 0 → trace_value f p ≡ pos 0
    → cross e f *ℤ (p.w *ℤ trace_value t q) ≡ cross e f *ℤ (q.w *ℤ trace_value t p) +ℤ (cross t f *ℤ (p.w *ℤ trace_value e q) +ℤ cross e t *ℤ (p.w *ℤ trace_value f q))
value_by_edges e f t p q ep fp =
    split (cross e f) (p.w *ℤ trace_value t q) (q.w *ℤ trace_value t p)
    ∙ ap (λ (v : ℤ). cross e f *ℤ (q.w *ℤ trace_value t p) +ℤ v) (turning e f t p q ∙ (λ i. cross t f *ℤ change_from_zero e p q ep i +ℤ cross e t *ℤ change_from_zero f p q fp i))
  where
    split : (c u v : ℤ) → c *ℤ u ≡ c *ℤ v +ℤ c *ℤ (u -ℤ v)
    split c u v = by_ring_at (c ∷ u ∷ v ∷ []) (search reify depth 40 fits 100000) tt

-- a direction between two others, from its cross products
pub direction_by : (ea eb fa fb ta tb : ℤ) → ((ea *ℤ fb -ℤ fa *ℤ eb) *ℤ ta ≡ (ta *ℤ fb -ℤ fa *ℤ tb) *ℤ ea +ℤ (ea *ℤ tb -ℤ ta *ℤ eb) *ℤ fa) × ((ea *ℤ fb -ℤ fa *ℤ eb) *ℤ tb ≡ (ta *ℤ fb -ℤ fa *ℤ tb) *ℤ eb +ℤ (ea *ℤ tb -ℤ ta *ℤ eb) *ℤ fb)
direction_by ea eb fa fb ta tb =
    (by_ring_at (ea ∷ eb ∷ fa ∷ fb ∷ ta ∷ tb ∷ []) (search reify depth 40 fits 100000) tt, by_ring_at (ea ∷ eb ∷ fa ∷ fb ∷ ta ∷ tb ∷ []) (search reify depth 40 fits 100000) tt)

-- three numbers at least 0 that add up to 0
pub sum_zero : (a b c : ℤ) → pos 0 ≤ℤ a → pos 0 ≤ℤ b → pos 0 ≤ℤ c → a +ℤ (b +ℤ c) ≡ pos 0 → (a ≡ pos 0) × (b ≡ pos 0) × (c ≡ pos 0)
sum_zero a b c ha hb hc e = (omega (arith, linear), omega (arith, linear), omega (arith, linear))

-- the value is not negative
pub value_least : (c w v u : ℤ) → pos 0 <ℤ c → pos 0 <ℤ w → c *ℤ (w *ℤ v) ≡ u → pos 0 ≤ℤ u → pos 0 ≤ℤ v
value_least c w v u hc hw e h =
    let m : pos 0 <ℤ (c *ℤ w) = mul_pos_ℤ c w hc hw in
    let n : pos 0 ≤ℤ (c *ℤ (w *ℤ v)) = subst (λ (x : ℤ). pos 0 ≤ℤ x) (sym e) h in
    le_by_multiple (c ∷ w ∷ v ∷ []) {k = c *ℤ w} m n (search reify depth 40 fits 100000) tt

-- a sum is 0 where the value is
pub value_zero : (c w v u : ℤ) → c *ℤ (w *ℤ v) ≡ u → v ≡ pos 0 → u ≡ pos 0
value_zero c w v u e z = sym e ∙ ap (λ (x : ℤ). c *ℤ (w *ℤ x)) z ∙ by_ring_at (c ∷ w ∷ []) (search reify depth 40 fits 100000) tt

-- a factor is 0 or the value is, where the weight is not
pub factor_or_value : (k w v : ℤ) → pos 0 <ℤ w → k *ℤ (w *ℤ v) ≡ pos 0 → (k ≡ pos 0) ⊎ (v ≡ pos 0)
factor_or_value k w v hw e =
    ⊎_elim inl
    (λ r. ⊎_elim (λ (z : w ≡ pos 0). absurd (omega (arith, linear, z, hw))) inr (mul_eq_zero_ℤ w v r))
    (mul_eq_zero_ℤ k (w *ℤ v) e)

-- a factor 0, or a first direction
pub factor_or_first : (k w v a b : ℤ) → pos 0 <ℤ w → IsHeldBy v a b → k *ℤ (w *ℤ v) ≡ pos 0 → (k ≡ pos 0) ⊎ IsFirst a b
factor_or_first k w v a b hw h e = ⊎_elim inl (λ z. inr (h.then z)) (factor_or_value k w v hw e)

module _ (e f t : Trace) (p q : RationalPoint) (on_e : trace_value e p ≡ pos 0) (on_f : trace_value f p ≡ pos 0) (left : pos 0 <ℤ cross e f) (wp : IsPoint p) (wq : IsPoint q)
    (from : pos 0 ≤ℤ cross e t) (to : pos 0 ≤ℤ cross t f) (least : pos 0 ≤ℤ trace_value t p) (he : IsHeldBy (trace_value e q) e.a e.b) (hf : IsHeldBy (trace_value f q) f.a f.b) (n : IsDirection t.a t.b) where
  -- three parts of its value are not negative: its own at the end
  own_part : pos 0 ≤ℤ (cross e f *ℤ (q.w *ℤ trace_value t p))
  own_part = search signs

  -- the part of the edge
  edge_part : pos 0 ≤ℤ (cross t f *ℤ (p.w *ℤ trace_value e q))
  edge_part = let m = he.least in search signs

  -- the part of the next edge
  next_part : pos 0 ≤ℤ (cross e t *ℤ (p.w *ℤ trace_value f q))
  next_part = let m = hf.least in search signs

  -- so its value is not negative
  part_sum : (a b c : ℤ) → pos 0 ≤ℤ a → pos 0 ≤ℤ b → pos 0 ≤ℤ c → pos 0 ≤ℤ (a +ℤ (b +ℤ c))
  part_sum a b c ha hb hc = omega (arith, linear, ha, hb, hc)

  -- where it is 0, its direction is first
  first_where_zero : trace_value t q ≡ pos 0 → IsFirst t.a t.b
  first_where_zero z =
      let s = sum_zero _ _ _ own_part edge_part next_part (value_zero (cross e f) p.w (trace_value t q) _ (value_by_edges e f t p q on_e on_f) z) in
      let d = direction_by e.a e.b f.a f.b t.a t.b in
      let ea = not_last_times (cross t f) e.a e.b to (factor_or_first (cross t f) p.w (trace_value e q) e.a e.b wp he s.1) in
      let fa = not_last_times (cross e t) f.a f.b from (factor_or_first (cross e t) p.w (trace_value f q) f.a f.b wp hf s.2) in
      let both = not_last_sum _ _ _ _ ea fa in
      first_of_multiple (cross e f) t.a t.b left (subst (λ (x : ℤ). IsNotLast (cross e f *ℤ t.a) x) (sym d.1) (subst (λ (x : ℤ). IsNotLast x (cross t f *ℤ e.b +ℤ cross e t *ℤ f.b)) (sym d.0) both)) n

  -- so it holds the point
  pub held_between : IsHeldBy (trace_value t q) t.a t.b
  held_between = record {
    least = value_least (cross e f) p.w (trace_value t q) _ left wp (value_by_edges e f t p q on_e on_f) (part_sum _ _ _ own_part edge_part next_part);
    then = first_where_zero;
  }

-- ---- the law
module _ (z : ℤ) (cell : List HalfSpace) (steps : List RingStep) (ring : IsRingOf z (traces z (with_sides cell)) steps) where
  -- a point that all edges hold is held by all traces
  pub edges_hold_all : (q : RationalPoint) → IsPoint q → ((s : RingStep) → Listed s steps → trace_holds s.edge q ≡ true) → (t : Trace) → Listed t (traces z (with_sides cell)) → trace_holds t q ≡ true
  edges_hold_all q wq h t l =
      let k = leans_on z (traces z (with_sides cell)) steps ring t in
      let j = joins steps k.turn k.listed in
      let u = ring.turns k.turn k.listed in
      let s = ring.each k.turn.step j.step in
      held_from t q
      (held_between k.turn.step.edge k.turn.next.edge t k.turn.step.end q u.on_edge u.on_next u.left s.end.point wq k.from k.to (s.weak t l)
      (held_to k.turn.step.edge q (h k.turn.step j.step))
      (held_to k.turn.next.edge q (h k.turn.next j.next))
      (trace_in z (with_sides cell) t l).direction)

-- the law
pub ring_holds_the_members_spec : RingHoldsTheMembers
ring_holds_the_members_spec z cell steps hz e p w hp c =
    let ring = ring_to z cell steps e in (
      λ m. of_all (λ s. IsTrue (trace_holds s.edge p)) steps (λ s l. (held_at_of z cell p (record { member = m; height = hp })).traces_hold s.edge (ring.each s l).edge),
      λ h. (of_held_at z cell p hz (record {
        point = w;
        height = hp;
        traces_hold = edges_hold_all z cell steps ring p w (all_of (λ s. trace_holds s.edge p ≡ true) steps h);
        levels = levels_to z cell steps e;
      })).member,
    )
