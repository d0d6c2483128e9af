-- A cell has at most one ring at a height: two rings have the same edges, in the order of their angles, and so the same ends.
use Rattle.std.proofs.Common.{◌≡◌, ℤ, pos, ◌+ℤ◌, ◌-ℤ◌, ◌*ℤ◌, ◌≤ℤ◌, ◌<ℤ◌, true, List, [], ◌∷◌, ◌⊎◌, inl, inr, ⊎_elim, refl, sym, ap, ◌∙◌, subst, arith}
use Rattle.rp_algebra.proofs.IntLaws.{linear, signs, trichotomy_ℤ, cancel_mul_left_ℤ}
use Rattle.rp_algebra.proofs.Reify.{by_ring_at, reify}
use Rattle.rp_algebra.proofs.Listed.{Listed, first, later}
use Rattle.rp_geometry.specs.Geometry.{RationalPoint, HalfSpace, IsPoint}
use Rattle.rp_geometry.specs.sections.Trace.{IsAtHeight, Trace, trace_value, with_sides}
use Rattle.rp_geometry.specs.laws.SectionLaws.{RingIsTheOnlyOne}
use Rattle.rp_geometry.specs.sections.Ring.{RingStep, Turn, turn_of, turns_to, turns_of, cross, is_angle_before, angles_rise}
use Rattle.rp_slice.proofs.Traces.{traces, trace_in, same_listed}
use Rattle.rp_slice.proofs.Turns.{backward, joins}
use Rattle.rp_slice.proofs.Rings.{IsLowestPoint, same_lowest, IsStep, IsTurn, IsRingOf, ring_to, on_edge}
use Rattle.rp_slice.proofs.Support.{no_change, meet_once, leans_on}
use Rattle.rp_slice.proofs.Spots.{IsSpot}
use Rattle.rp_slice.proofs.Holding.{value_by_edges, direction_by, sum_zero, value_zero, factor_or_value}
use Rattle.rp_slice.proofs.Angles.{HaveDirections, before_chain, not_before_itself, rising_rest, before_rest}

-- ---- traces of one line

-- the last numbers are proportional, where both values are 0
last_by : (c k ea eb ed na nb nd x y w : ℤ) → pos 0 <ℤ w → c *ℤ ea ≡ k *ℤ na → c *ℤ eb ≡ k *ℤ nb → ea *ℤ x +ℤ eb *ℤ y +ℤ ed *ℤ w ≡ pos 0 → na *ℤ x +ℤ nb *ℤ y +ℤ nd *ℤ w ≡ pos 0 → c *ℤ ed ≡ k *ℤ nd
last_by c k ea eb ed na nb nd x y w hw a b e n =
    cancel_mul_left_ℤ w (c *ℤ ed) (k *ℤ nd) hw
    (first_form
    ∙ (λ i. c *ℤ e i -ℤ a i *ℤ x -ℤ b i *ℤ y)
    ∙ (λ i. second_form i)
    ∙ (λ i. k *ℤ sym n i -ℤ k *ℤ na *ℤ x -ℤ k *ℤ nb *ℤ y)
    ∙ third_form)
  where
    first_form : w *ℤ (c *ℤ ed) ≡ c *ℤ (ea *ℤ x +ℤ eb *ℤ y +ℤ ed *ℤ w) -ℤ c *ℤ ea *ℤ x -ℤ c *ℤ eb *ℤ y
    first_form = by_ring_at (c ∷ ea ∷ eb ∷ ed ∷ x ∷ y ∷ w ∷ []) (search reify depth 40 fits 100000) tt

    second_form : c *ℤ pos 0 -ℤ k *ℤ na *ℤ x -ℤ k *ℤ nb *ℤ y ≡ k *ℤ pos 0 -ℤ k *ℤ na *ℤ x -ℤ k *ℤ nb *ℤ y
    second_form = by_ring_at (c ∷ k ∷ na ∷ nb ∷ x ∷ y ∷ []) (search reify depth 40 fits 100000) tt

    third_form : k *ℤ (na *ℤ x +ℤ nb *ℤ y +ℤ nd *ℤ w) -ℤ k *ℤ na *ℤ x -ℤ k *ℤ nb *ℤ y ≡ w *ℤ (k *ℤ nd)
    third_form = by_ring_at (k ∷ na ∷ nb ∷ nd ∷ x ∷ y ∷ w ∷ []) (search reify depth 40 fits 100000) tt

-- a number at least 0 that is not 0 is above 0
above : (k : ℤ) → pos 0 ≤ℤ k → (k ≡ pos 0 → ⊥) → pos 0 <ℤ k
above k h n = ⊎_elim (λ (l : k <ℤ pos 0). absurd (omega (arith, linear, l, h))) (λ r. ⊎_elim (λ (z : k ≡ pos 0). absurd (n z)) (λ g. g) r) (trichotomy_ℤ k (pos 0))

-- a number is 0 where a multiple above 0 of it is a multiple by 0
zero_by : (c k a b : ℤ) → pos 0 <ℤ c → c *ℤ a ≡ k *ℤ b → k ≡ pos 0 → a ≡ pos 0
zero_by c k a b hc e z = cancel_mul_left_ℤ c a (pos 0) hc (e ∙ ap (λ (u : ℤ). u *ℤ b) z ∙ by_ring_at (c ∷ b ∷ []) (search reify depth 40 fits 100000) tt)

-- two traces of a list with proportional directions that are 0 at one point are one
pub same_line : (z : ℤ) (hs : List HalfSpace) (e n : Trace) (c k : ℤ) (p : RationalPoint) → Listed e (traces z hs) → Listed n (traces z hs) → pos 0 <ℤ c → pos 0 ≤ℤ k → IsPoint p
    → c *ℤ e.a ≡ k *ℤ n.a → c *ℤ e.b ≡ k *ℤ n.b → trace_value e p ≡ pos 0 → trace_value n p ≡ pos 0 → e ≡ n
same_line z hs e n c k p le ln hc hk w a b ep np =
    same_listed z hs e n c k le ln hc
    (above k hk (λ y. (trace_in z hs e le).direction (zero_by c k e.a n.a hc a y) (zero_by c k e.b n.b hc b y)))
    a b (last_by c k e.a e.b e.d n.a n.b n.d p.x p.y p.w w a b ep np)

-- ---- an edge of one ring is one of the other
-- a step of the ring with the edge
pub record HasEdge (steps : List RingStep) (e : Trace) : Type 0 where
  pub step : RingStep
  pub listed : Listed step steps
  pub same : step.edge ≡ e

-- a sum with a multiple of 0 first
first_gone : (a k x y : ℤ) → a ≡ pos 0 → a *ℤ x +ℤ k *ℤ y ≡ k *ℤ y
first_gone a k x y z = ap (λ (u : ℤ). u *ℤ x +ℤ k *ℤ y) z ∙ by_ring_at (k ∷ x ∷ y ∷ []) (search reify depth 40 fits 100000) tt

-- a sum with a multiple of 0 last
last_gone : (a k x y : ℤ) → k ≡ pos 0 → a *ℤ x +ℤ k *ℤ y ≡ a *ℤ x
last_gone a k x y z = ap (λ (u : ℤ). a *ℤ x +ℤ u *ℤ y) z ∙ by_ring_at (a ∷ x ∷ y ∷ []) (search reify depth 40 fits 100000) tt

-- what is left where an edge is 0 at a point at which no other edge is negative
pub record IsFlatAt (e m n : Trace) (p q : RationalPoint) : Type 0 where
  pub own : trace_value e p ≡ pos 0
  pub from : (cross e n ≡ pos 0) ⊎ (trace_value m q ≡ pos 0)
  pub to : (cross m e ≡ pos 0) ⊎ (trace_value n q ≡ pos 0)

-- so it is
flat_at : (e m n : Trace) (p q : RationalPoint) → trace_value m p ≡ pos 0 → trace_value n p ≡ pos 0 → pos 0 <ℤ cross m n → IsPoint p → IsPoint q
    → pos 0 ≤ℤ cross m e → pos 0 ≤ℤ cross e n → pos 0 ≤ℤ trace_value e p → trace_value e q ≡ pos 0 → pos 0 ≤ℤ trace_value m q → pos 0 ≤ℤ trace_value n q → IsFlatAt e m n p q
flat_at e m n p q mp np c wp wq from to ep eq mq nq =
    let own : pos 0 ≤ℤ (cross m n *ℤ (q.w *ℤ trace_value e p)) = search signs in
    let left : pos 0 ≤ℤ (cross e n *ℤ (p.w *ℤ trace_value m q)) = search signs in
    let right : pos 0 ≤ℤ (cross m e *ℤ (p.w *ℤ trace_value n q)) = search signs in
    let t = sum_zero _ _ _ own left right (value_zero (cross m n) p.w (trace_value e q) _ (value_by_edges m n e p q mp np) eq) in
    record {
      own = ⊎_elim (λ (y : cross m n ≡ pos 0). absurd (omega (arith, linear, y, c))) (λ y. y) (factor_or_value (cross m n) q.w (trace_value e p) wq t.0);
      from = factor_or_value (cross e n) p.w (trace_value m q) wp t.1;
      to = factor_or_value (cross m e) p.w (trace_value n q) wp t.2;
    }

module _ (z : ℤ) (hs : List HalfSpace) (steps : List RingStep) (ring : IsRingOf z (traces z hs) steps) (t : Trace) (tl : Listed t (traces z hs)) where
  -- a turn of the ring on which the trace leans
  module _ (u : Turn) (ul : Listed u (turns_of steps)) (from : pos 0 ≤ℤ cross u.step.edge t) (to : pos 0 ≤ℤ cross t u.next.edge) where
    -- where the trace is 0
    flat_where : (q : RationalPoint) → IsSpot z (traces z hs) q → trace_value t q ≡ pos 0 → IsFlatAt t u.step.edge u.next.edge u.step.end q
    flat_where q s e =
        let j = joins steps u ul in
        let k = ring.turns u ul in
        let m = ring.each u.step j.step in
        let n = ring.each u.next j.next in
        flat_at t u.step.edge u.next.edge u.step.end q k.on_edge k.on_next k.left m.end.point s.lowest.point from to
        (m.weak t tl) e (s.weak u.step.edge m.edge) (s.weak u.next.edge n.edge)

    -- the trace is the edge of the step, where it does not lean on the next one
    is_step : trace_value t u.step.end ≡ pos 0 → cross u.step.edge t ≡ pos 0 → HasEdge steps t
    is_step own y =
        let j = joins steps u ul in
        let k = ring.turns u ul in
        let m = ring.each u.step j.step in
        let d = direction_by u.step.edge.a u.step.edge.b u.next.edge.a u.next.edge.b t.a t.b in
        record {
          step = u.step;
          listed = j.step;
          same = sym (same_line z hs t u.step.edge (cross u.step.edge u.next.edge) (cross t u.next.edge) u.step.end tl m.edge k.left to m.end.point
              (d.0 ∙ last_gone (cross t u.next.edge) (cross u.step.edge t) u.step.edge.a u.next.edge.a y)
              (d.1 ∙ last_gone (cross t u.next.edge) (cross u.step.edge t) u.step.edge.b u.next.edge.b y) own k.on_edge);
        }

    -- it is that of the next one, where it does not lean on the step
    is_next : trace_value t u.step.end ≡ pos 0 → cross t u.next.edge ≡ pos 0 → HasEdge steps t
    is_next own y =
        let j = joins steps u ul in
        let k = ring.turns u ul in
        let m = ring.each u.step j.step in
        let n = ring.each u.next j.next in
        let d = direction_by u.step.edge.a u.step.edge.b u.next.edge.a u.next.edge.b t.a t.b in
        record {
          step = u.next;
          listed = j.next;
          same = sym (same_line z hs t u.next.edge (cross u.step.edge u.next.edge) (cross u.step.edge t) u.step.end tl n.edge k.left from m.end.point
              (d.0 ∙ first_gone (cross t u.next.edge) (cross u.step.edge t) u.step.edge.a u.next.edge.a y)
              (d.1 ∙ first_gone (cross t u.next.edge) (cross u.step.edge t) u.step.edge.b u.next.edge.b y) own k.on_next);
        }

    -- it leans on one of them alone, where it is 0 at two different points
    leans_alone : (p q : RationalPoint) → IsSpot z (traces z hs) p → IsSpot z (traces z hs) q → trace_value t p ≡ pos 0 → trace_value t q ≡ pos 0 → (p ≡ q → ⊥) → HasEdge steps t
    leans_alone p q sp sq ep eq apart =
        let k = ring.turns u ul in
        let a = flat_where p sp ep in
        let b = flat_where q sq eq in
        ⊎_elim
        (λ y. is_next a.own y)
        (λ mp. ⊎_elim
        (λ y. is_step a.own y)
        (λ np. ⊎_elim
        (λ y. is_next a.own y)
        (λ mq. ⊎_elim
        (λ y. is_step a.own y)
        (λ nq. absurd (apart (same_lowest p q sp.lowest sq.lowest
        (meet_once z u.step.edge u.next.edge p q sp.height sq.height k.left (no_change u.step.edge p q mp mq) (no_change u.next.edge p q np nq)))))
        b.to)
        b.from)
        a.to)
        a.from

  -- a trace that is 0 at two different points of the section is an edge of its ring
  pub edge_at_two : (p q : RationalPoint) → IsSpot z (traces z hs) p → IsSpot z (traces z hs) q → trace_value t p ≡ pos 0 → trace_value t q ≡ pos 0 → (p ≡ q → ⊥) → HasEdge steps t
  edge_at_two p q sp sq ep eq apart =
      let k = leans_on z (traces z hs) steps ring t in
      leans_alone k.turn k.listed k.from k.to p q sp sq ep eq apart

-- an end of a ring is a point of the section
pub end_spot : (z : ℤ) (ts : List Trace) (s : RingStep) → IsStep z ts s → IsSpot z ts s.end
end_spot z ts s k = record { lowest = k.end; height = k.height; weak = k.weak }

-- each edge of a ring is one of any other
pub edge_shared : (z : ℤ) (hs : List HalfSpace) (steps others : List RingStep) → IsRingOf z (traces z hs) steps → IsRingOf z (traces z hs) others → (s : RingStep) → Listed s steps → HasEdge others s.edge
edge_shared z hs steps others ring other s l =
    let b = backward steps s l in
    let j = joins steps (turn_of b.from s) b.listed in
    let t = ring.turns (turn_of b.from s) b.listed in
    edge_at_two z hs others other s.edge (ring.each s l).edge b.from.end s.end (end_spot z (traces z hs) b.from (ring.each b.from j.step)) (end_spot z (traces z hs) s (ring.each s l))
    t.on_next (on_edge z (traces z hs) steps ring s l) t.apart

-- ---- the same edges in the same order

-- the two lists have the same edges
abbrev pub SameEdges : List RingStep → List RingStep → Type 0
SameEdges [] [] = Unit {0}
SameEdges [] (o ∷ others) = ⊥
SameEdges (s ∷ steps) [] = ⊥
SameEdges (s ∷ steps) (o ∷ others) = (s.edge ≡ o.edge) × SameEdges steps others

-- an edge of a list is that of the first step, or of one behind it
has_cases : (o : RingStep) (others : List RingStep) (e : Trace) → HasEdge (o ∷ others) e → (o.edge ≡ e) ⊎ HasEdge others e
has_cases o others e h = by_listed h.step h.listed h.same
  where
    by_listed : (s : RingStep) → Listed s (o ∷ others) → s.edge ≡ e → (o.edge ≡ e) ⊎ HasEdge others e
    by_listed s first k = inl k
    by_listed s (later l) k = inr (record { step = s; listed = l; same = k })

module _ (s o : RingStep) (steps others : List RingStep) (ns : HaveDirections (s ∷ steps)) (na : HaveDirections (o ∷ others)) (rs : angles_rise (s ∷ steps) ≡ true) (ro : angles_rise (o ∷ others) ≡ true) where
  -- the first edges are the same
  same_first : HasEdge (o ∷ others) s.edge → HasEdge (s ∷ steps) o.edge → s.edge ≡ o.edge
  same_first h k =
      ⊎_elim
      (λ e. sym e)
      (λ (a : HasEdge others s.edge). ⊎_elim
      (λ e. e)
      (λ (b : HasEdge steps o.edge).
      let before_o = subst (λ (t : Trace). is_angle_before o.edge t ≡ true) a.same (before_rest o others na ro a.step a.listed) in
      let before_s = subst (λ (t : Trace). is_angle_before s.edge t ≡ true) b.same (before_rest s steps ns rs b.step b.listed) in
      absurd (not_before_itself s.edge (before_chain s.edge o.edge s.edge (ns s first) (na o first) (ns s first) before_s before_o)))
      (has_cases s steps o.edge k))
      (has_cases o others s.edge h)

  -- an edge behind the first is behind the first of the other list
  shared_rest : s.edge ≡ o.edge → ((t : RingStep) → Listed t (s ∷ steps) → HasEdge (o ∷ others) t.edge) → (t : RingStep) → Listed t steps → HasEdge others t.edge
  shared_rest e h t l =
      ⊎_elim
      (λ (same : o.edge ≡ t.edge). absurd (not_before_itself s.edge (subst (λ (u : Trace). is_angle_before s.edge u ≡ true) (sym (e ∙ same)) (before_rest s steps ns rs t l))))
      (λ a. a)
      (has_cases o others t.edge (h t (later l)))

-- rising lists with the same edges have them in the same order
pub same_edges : (steps others : List RingStep) → HaveDirections steps → HaveDirections others → angles_rise steps ≡ true → angles_rise others ≡ true
    → ((s : RingStep) → Listed s steps → HasEdge others s.edge) → ((o : RingStep) → Listed o others → HasEdge steps o.edge) → SameEdges steps others
same_edges [] [] ns na rs ro h k = tt
same_edges [] (o ∷ others) ns na rs ro h k = none (k o first)
  where
    none : HasEdge [] o.edge → ⊥
    none e = nothing e.step e.listed
      where
        nothing : (s : RingStep) → Listed s [] → ⊥
        nothing s l = elim l [ ]
same_edges (s ∷ steps) [] ns na rs ro h k = none (h s first)
  where
    none : HasEdge [] s.edge → ⊥
    none e = nothing e.step e.listed
      where
        nothing : (s : RingStep) → Listed s [] → ⊥
        nothing s l = elim l [ ]
same_edges (s ∷ steps) (o ∷ others) ns na rs ro h k =
    let e = same_first s o steps others ns na rs ro (h s first) (k o first) in (
      e,
      same_edges steps others (λ t l. ns t (later l)) (λ t l. na t (later l)) (rising_rest s steps rs) (rising_rest o others ro)
          (shared_rest s o steps others ns na rs ro e h)
          (shared_rest o s others steps na ns ro rs (sym e) k),
    )

-- ---- the same ends

-- a turn with its end
pub record EndsAt (z : ℤ) (u : Turn) : Type 0 where
  pub turn : IsTurn u
  pub end : IsLowestPoint u.step.end
  pub height : IsAtHeight z u.step.end

-- the value of an edge, along a path of edges
value_along : {e f : Trace} (p : RationalPoint) → e ≡ f → trace_value f p ≡ pos 0 → trace_value e p ≡ pos 0
value_along p s h = subst (λ (t : Trace). trace_value t p ≡ pos 0) (sym s) h

-- two turns with the same edges have the same end
same_end : (z : ℤ) (s h o g : RingStep) → s.edge ≡ o.edge → h.edge ≡ g.edge → EndsAt z (turn_of s h) → EndsAt z (turn_of o g) → s ≡ o
same_end z s h o g es eh a b =
    let e = same_lowest s.end o.end a.end b.end
    (meet_once z s.edge h.edge s.end o.end a.height b.height a.turn.left
    (no_change s.edge s.end o.end a.turn.on_edge (value_along o.end es b.turn.on_edge))
    (no_change h.edge s.end o.end a.turn.on_next (value_along o.end eh b.turn.on_next))) in
    λ i. record { edge = es i; end = e i }

-- lists with the same edges have the same steps
same_steps : (z : ℤ) (h g : RingStep) (steps others : List RingStep) → h.edge ≡ g.edge → SameEdges steps others
    → ((u : Turn) → Listed u (turns_to h steps) → EndsAt z u) → ((u : Turn) → Listed u (turns_to g others) → EndsAt z u) → steps ≡ others
same_steps z h g [] [] e k a b = refl
same_steps z h g [] (o ∷ others) e k a b = absurd k
same_steps z h g (s ∷ steps) [] e k a b = absurd k
same_steps z h g (s ∷ []) (o ∷ []) e k a b = ap (λ (t : RingStep). t ∷ []) (same_end z s h o g k.0 e (a _ first) (b _ first))
same_steps z h g (s ∷ []) (o ∷ p ∷ others) e k a b = absurd k.1
same_steps z h g (s ∷ t ∷ steps) (o ∷ []) e k a b = absurd k.1
same_steps z h g (s ∷ t ∷ steps) (o ∷ p ∷ others) e k a b =
    λ i. same_end z s t o p k.0 k.1.0 (a _ first) (b _ first) i ∷ same_steps z h g (t ∷ steps) (p ∷ others) e k.1 (λ u l. a u (later l)) (λ u l. b u (later l)) i

-- the turns of a ring end as they must
pub ends_at : (z : ℤ) (ts : List Trace) (steps : List RingStep) → IsRingOf z ts steps → (u : Turn) → Listed u (turns_of steps) → EndsAt z u
ends_at z ts steps k u l = let s = k.each u.step (joins steps u l).step in record { turn = k.turns u l; end = s.end; height = s.height }

-- the edges of a ring have directions
pub have_directions : (z : ℤ) (hs : List HalfSpace) (steps : List RingStep) → IsRingOf z (traces z hs) steps → HaveDirections steps
have_directions z hs steps k s l = (trace_in z hs s.edge (k.each s l).edge).direction

-- two rings with the same edges are one
same_rings : (z : ℤ) (ts : List Trace) (steps others : List RingStep) → IsRingOf z ts steps → IsRingOf z ts others → SameEdges steps others → steps ≡ others
same_rings z ts [] [] k j e = refl
same_rings z ts [] (o ∷ others) k j e = absurd e
same_rings z ts (s ∷ steps) [] k j e = absurd e
same_rings z ts (s ∷ steps) (o ∷ others) k j e = same_steps z s o (s ∷ steps) (o ∷ others) e.0 e (ends_at z ts (s ∷ steps) k) (ends_at z ts (o ∷ others) j)

-- the law
pub ring_is_the_only_one_spec : RingIsTheOnlyOne
ring_is_the_only_one_spec z cell steps others e f =
    let k = ring_to z cell steps e in
    let j = ring_to z cell others f in
    let hs = with_sides cell in
    same_rings z (traces z hs) steps others k j
    (same_edges steps others (have_directions z hs steps k) (have_directions z hs others j) k.rising j.rising (edge_shared z hs steps others k j) (edge_shared z hs others steps j k))
