-- The ring that is found: the traces that are 0 at two corners, by their angles, each with the point where it meets the next one.
use Rattle.std.proofs.Common.{◌≡◌, ℤ, pos, neg_ℤ, ◌+ℤ◌, ◌-ℤ◌, ◌*ℤ◌, ◌≤ℤ◌, ◌<ℤ◌, Bool, true, false, not, List, [], ◌∷◌, map, ◌⊎◌, inl, inr, ⊎_elim, Option, Some, None, refl, sym, ap, ◌∙◌, subst, arith}
use Rattle.std.specs.Prelude.{IsNone, IfSome}
use Rattle.std.specs.List.{list_all, list_any}
use Rattle.rp_algebra.specs.Integer.{is_zero, is_positive, is_nonnegative}
use Rattle.rp_algebra.proofs.IntLaws.{linear, trichotomy_ℤ}
use Rattle.rp_algebra.proofs.Numbers.{above_not_zero, below_not_zero, neg_positive}
use Rattle.rp_algebra.proofs.Reify.{by_ring_at, reify}
use Rattle.rp_algebra.proofs.Tests.{and_first, and_second, and_true, zero_is, is_zero_true, is_zero_false, is_positive_true, is_positive_false, nonnegative_is, is_nonnegative_true, false_not_true, false_unless}
use Rattle.rp_algebra.proofs.Options.{none_not_some, some_not_none, same_some}
use Rattle.rp_algebra.proofs.Listed.{Listed, first, later, all_pass, pass_all}
use Rattle.rp_algebra.proofs.Filter.{passes_some, some_passes}
use Rattle.rp_geometry.specs.Geometry.{RationalPoint, HalfSpace, point_of, reduced_point, point_eq}
use Rattle.rp_geometry.specs.searches.Search.{all_of_pairs}
use Rattle.rp_geometry.specs.searches.Vertex.{normal_point, negated_point}
use Rattle.rp_geometry.specs.searches.Certificate.{Multiple}
use Rattle.rp_geometry.specs.laws.CellLaws.{AreHalfSpaces}
use Rattle.rp_geometry.specs.sections.Trace.{IsAtHeight, IsHeight, Trace, trace_value, level_point, with_sides, traces}
use Rattle.rp_geometry.specs.laws.SectionLaws.{HasMemberAt, IsRing, IsFirstFlat, IsSliceOf, FindsSlice, RingIsFound, SliceIsFound}
use Rattle.rp_geometry.specs.sections.Ring.{RingStep, Turn, turn_of, turns_to, turns_of, cross, is_angle_before, crossing, trace_meeting, corner_if, corners, joins_both, is_edge_of, insert_edge, step_to, steps_to, steps_along, ring_of, angles_rise, edges_among}
use Rattle.rp_geometry.specs.sections.Slice.{Slice, slice_of, is_slice}
use Rattle.rp_geometry.specs.sections.Flat.{first_flat}
use Rattle.rp_geometry.proofs.Points.{point_eq-to, point_eq-same}
use Rattle.rp_convex.proofs.LowestOne.{lowest_terms_are_one_spec}
use Rattle.rp_convex.proofs.Triples.{found_two}
use Rattle.rp_convex.proofs.Firsts.{from_two}
use Rattle.rp_slice.proofs.Traces.{IsDirection}
use Rattle.rp_slice.proofs.Turns.{onward, backward, joins}
use Rattle.rp_slice.proofs.Rings.{IsLowestPoint, IsRingOf, ring_to, on_edge}
use Rattle.rp_slice.proofs.Support.{no_change, meet_once}
use Rattle.rp_slice.proofs.Angles.{HaveDirections, before_chain, before_rest, rising_rest}
use Rattle.rp_slice.proofs.Unique.{HasEdge, edge_at_two, end_spot, SameEdges, same_edges, EndsAt, ends_at, have_directions, ring_is_the_only_one_spec}
use Rattle.rp_slice.proofs.Spots.{IsSpot, reduced_lowest, reduced_height, cross_turned}
use Rattle.rp_slice.proofs.Center.{ring_shows_member_spec}
use Rattle.rp_slice.proofs.Never.{never_flat}
use Rattle.rp_slice.proofs.FlatFound.{found_is_flat, finds_flat}
use Rattle.rp_slice.proofs.FlatFirst.{first_flat_is_first_spec}
use Rattle.rp_slice.proofs.Walks.{member_has_ring_spec}

-- ---- where two traces meet

-- the first trace is 0 there
pub crossing_first : (sa sb sd ta tb td : ℤ) → sa *ℤ (sb *ℤ td -ℤ tb *ℤ sd) +ℤ sb *ℤ (ta *ℤ sd -ℤ sa *ℤ td) +ℤ sd *ℤ (sa *ℤ tb -ℤ ta *ℤ sb) ≡ pos 0
crossing_first sa sb sd ta tb td = by_ring_at (sa ∷ sb ∷ sd ∷ ta ∷ tb ∷ td ∷ []) (search reify depth 40 fits 100000) tt

-- so is the second
pub crossing_second : (sa sb sd ta tb td : ℤ) → ta *ℤ (sb *ℤ td -ℤ tb *ℤ sd) +ℤ tb *ℤ (ta *ℤ sd -ℤ sa *ℤ td) +ℤ td *ℤ (sa *ℤ tb -ℤ ta *ℤ sb) ≡ pos 0
crossing_second sa sb sd ta tb td = by_ring_at (sa ∷ sb ∷ sd ∷ ta ∷ tb ∷ td ∷ []) (search reify depth 40 fits 100000) tt

-- a value at the negated numbers
pub negated_value : (t : Trace) (p : RationalPoint) → trace_value t p ≡ pos 0 → trace_value t (negated_point p) ≡ pos 0
negated_value t p e = by_ring_at (t.a ∷ t.b ∷ t.d ∷ p.x ∷ p.y ∷ p.w ∷ []) {y = neg_ℤ (trace_value t p)} (search reify depth 40 fits 100000) tt ∙ ap neg_ℤ e

-- the height of the negated numbers
negated_height : (z : ℤ) (p : RationalPoint) → IsAtHeight z p → IsAtHeight z (negated_point p)
negated_height z p e = ap neg_ℤ e ∙ by_ring_at (z ∷ p.w ∷ []) (search reify depth 40 fits 100000) tt

-- the normal form of numbers with a weight above 0
pub normal_above : (p : RationalPoint) → pos 0 <ℤ p.w → normal_point p ≡ Some (reduced_point p)
normal_above p h =
    (λ i. elim (is_zero_false p.w (above_not_zero p.w h) i) [ true ↦ None | false ↦ elim (is_positive p.w) [ true ↦ Some (reduced_point p) | false ↦ Some (reduced_point (negated_point p)) ] ])
    ∙ (λ i. elim (is_positive_true p.w h i) [ true ↦ Some (reduced_point p) | false ↦ Some (reduced_point (negated_point p)) ])

-- that of numbers with a weight below 0
pub normal_below : (p : RationalPoint) → p.w <ℤ pos 0 → normal_point p ≡ Some (reduced_point (negated_point p))
normal_below p h =
    (λ i. elim (is_zero_false p.w (below_not_zero p.w h) i) [ true ↦ None | false ↦ elim (is_positive p.w) [ true ↦ Some (reduced_point p) | false ↦ Some (reduced_point (negated_point p)) ] ])
    ∙ (λ i. elim (is_positive_false p.w (at_most p.w h) i) [ true ↦ Some (reduced_point p) | false ↦ Some (reduced_point (negated_point p)) ])
  where
    at_most : (v : ℤ) → v <ℤ pos 0 → v ≤ℤ pos 0
    at_most v h = omega (arith, linear, h)

-- numbers with the weight 0 have none
pub normal_zero : (p : RationalPoint) → p.w ≡ pos 0 → normal_point p ≡ None
normal_zero p e = λ i. elim (is_zero_true p.w e i) [ true ↦ None | false ↦ elim (is_positive p.w) [ true ↦ Some (reduced_point p) | false ↦ Some (reduced_point (negated_point p)) ] ]

-- the point in lowest terms where two traces meet is the one that is found
pub meeting_is : (z : ℤ) (s t : Trace) (p : RationalPoint) → IsLowestPoint p → IsAtHeight z p → trace_value s p ≡ pos 0 → trace_value t p ≡ pos 0 → (cross s t ≡ pos 0 → ⊥) → trace_meeting z s t ≡ Some p
unfolding trace_meeting
meeting_is z s t p lowest hp sp tp n =
    let c = crossing z s t in
    let sc = crossing_first s.a s.b s.d t.a t.b t.d in
    let tc = crossing_second s.a s.b s.d t.a t.b t.d in
    ⊎_elim
    (λ (low : cross s t <ℤ pos 0).
    let w = neg_positive (cross s t) low in
    let turned = subst (λ (v : ℤ). pos 0 <ℤ v) (sym (cross_turned s t)) w in
    let e = meet_once z t s (negated_point c) p (negated_height z c refl) hp turned (no_change t (negated_point c) p (negated_value t c tc) tp) (no_change s (negated_point c) p (negated_value s c sc) sp) in
    normal_below c low ∙ ap Some (lowest_terms_are_one_spec (negated_point c) p w lowest.point e ∙ lowest.lowest))
    (λ r. ⊎_elim
    (λ (zero : cross s t ≡ pos 0). absurd (n zero))
    (λ (high : pos 0 <ℤ cross s t).
    let e = meet_once z s t c p refl hp high (no_change s c p sc sp) (no_change t c p tc tp) in
    normal_above c high ∙ ap Some (lowest_terms_are_one_spec c p high lowest.point e ∙ lowest.lowest)) r)
    (trichotomy_ℤ (cross s t) (pos 0))

-- a point of a height in lowest terms
pub record IsPlain (z : ℤ) (p : RationalPoint) : Type 0 where
  pub lowest : IsLowestPoint p
  pub height : IsAtHeight z p

-- what is found is one
pub meeting_plain : (z : ℤ) (s t : Trace) (p : RationalPoint) → trace_meeting z s t ≡ Some p → IsPlain z p
unfolding trace_meeting
meeting_plain z s t p e =
    let c = crossing z s t in
    ⊎_elim
    (λ (low : cross s t <ℤ pos 0).
    let w = neg_positive (cross s t) low in
    subst (λ (q : RationalPoint). IsPlain z q) (same_some _ p (sym (normal_below c low) ∙ e)) (record { lowest = reduced_lowest (negated_point c) w; height = reduced_height z (negated_point c) w (negated_height z c refl) }))
    (λ r. ⊎_elim
    (λ (zero : cross s t ≡ pos 0). absurd (none_not_some p (sym (normal_zero c zero) ∙ e)))
    (λ (high : pos 0 <ℤ cross s t). subst (λ (q : RationalPoint). IsPlain z q) (same_some _ p (sym (normal_above c high) ∙ e)) (record { lowest = reduced_lowest c high; height = reduced_height z c high refl })) r)
    (trichotomy_ℤ (cross s t) (pos 0))

-- ---- corners
-- a corner is a point of the section
corner_spot : (z : ℤ) (ts : List Trace) (p : RationalPoint) → Listed p (corners z ts) → IsSpot z ts p
unfolding corners
corner_spot z ts p l =
    let g = from_two (λ s t. corner_if ts (trace_meeting z s t)) ts p l in
    of_meeting g.one g.two (trace_meeting z g.one g.two) refl g.is
  where
    of_test : (q : RationalPoint) → IsPlain z q → (b : Bool) → list_all (λ t. is_nonnegative (trace_value t q)) ts ≡ b → elim b [ true ↦ Some q | false ↦ None ] ≡ Some p → IsSpot z ts p
    of_test q k true e f = subst (λ (r : RationalPoint). IsSpot z ts r) (same_some q p f) (record { lowest = k.lowest; height = k.height; weak = λ t i. nonnegative_is (trace_value t q) (all_pass (λ t. is_nonnegative (trace_value t q)) ts e t i) })
    of_test q k false e f = absurd (none_not_some p f)

    of_meeting : (s t : Trace) (o : Option RationalPoint) → trace_meeting z s t ≡ o → corner_if ts o ≡ Some p → IsSpot z ts p
    of_meeting s t None e f = absurd (none_not_some p f)
    of_meeting s t (Some q) e f = of_test q (meeting_plain z s t q e) (list_all (λ t. is_nonnegative (trace_value t q)) ts) refl f

-- two traces meet at a point of the section
record MeetAt (z : ℤ) (ts : List Trace) (p : RationalPoint) (s t : Trace) : Type 0 where
  first_zero : trace_value s p ≡ pos 0
  second_zero : trace_value t p ≡ pos 0
  crossed : cross s t ≡ pos 0 → ⊥

-- a point of the section where two traces of the list meet is a corner
spot_corner : (z : ℤ) (ts : List Trace) (p : RationalPoint) (s t : Trace) → IsSpot z ts p → Listed s ts → Listed t ts → MeetAt z ts p s t → Listed p (corners z ts)
unfolding corners
spot_corner z ts p s t k ls lt m =
    let h = found_two (λ q. q ≡ p) (λ s t. corner_if ts (trace_meeting z s t)) (MeetAt z ts p)
    (λ x y n. record { first_zero = n.second_zero; second_zero = n.first_zero; crossed = λ e. n.crossed (turned_zero x y e) })
    (λ x n. n.crossed (own_zero x))
    (λ x y n. record { value = p; is = ap (corner_if ts) (meeting_is z x y p k.lowest k.height n.first_zero n.second_zero n.crossed) ∙ given; so = refl })
    ts s t ls lt m in
    subst (λ (q : RationalPoint). Listed q (all_of_pairs (λ s t. corner_if ts (trace_meeting z s t)) ts)) h.so h.listed
  where
    turned_zero : (x y : Trace) → cross y x ≡ pos 0 → cross x y ≡ pos 0
    turned_zero x y e = cross_turned y x ∙ ap neg_ℤ e

    own_zero : (x : Trace) → cross x x ≡ pos 0
    own_zero x = by_ring_at (x.a ∷ x.b ∷ []) (search reify depth 40 fits 100000) tt

    given : corner_if ts (Some p) ≡ Some p
    given = λ i. elim (pass_all (λ t. is_nonnegative (trace_value t p)) ts (λ t l. is_nonnegative_true (trace_value t p) (k.weak t l)) i) [ true ↦ Some p | false ↦ None ]

-- ---- edges

-- two points of a list that a trace joins
record JoinsTwo (points : List RationalPoint) (t : Trace) : Type 0 where
  one : RationalPoint
  two : RationalPoint
  one_listed : Listed one points
  two_listed : Listed two points
  one_zero : trace_value t one ≡ pos 0
  two_zero : trace_value t two ≡ pos 0
  apart : one ≡ two → ⊥

-- an edge has two
edge_to : (points : List RationalPoint) (t : Trace) → is_edge_of points t ≡ true → JoinsTwo points t
edge_to points t e =
    let p = some_passes (λ p. list_any (joins_both t p) points) points e in
    let q = some_passes (joins_both t p.item) points p.passes in
    let both = and_first _ (not (point_eq p.item q.item)) q.passes in
    record {
      one = p.item;
      two = q.item;
      one_listed = p.listed;
      two_listed = q.listed;
      one_zero = zero_is _ (and_first (is_zero (trace_value t p.item)) _ both);
      two_zero = zero_is _ (and_second (is_zero (trace_value t p.item)) _ both);
      apart = λ s. other (point_eq p.item q.item) (and_second _ (not (point_eq p.item q.item)) q.passes) (subst (λ r. point_eq p.item r ≡ true) s (point_eq-same p.item));
    }
  where
    other : (b : Bool) → not b ≡ true → b ≡ true → ⊥
    other true e f = false_not_true false e refl
    other false e f = false_not_true false f refl

-- a trace that joins two is an edge
edge_from : (points : List RationalPoint) (t : Trace) → JoinsTwo points t → is_edge_of points t ≡ true
edge_from points t j =
    passes_some (λ p. list_any (joins_both t p) points) points j.one j.one_listed
    (passes_some (joins_both t j.one) points j.two j.two_listed
    (and_true _ _ (and_true _ _ (is_zero_true _ j.one_zero) (is_zero_true _ j.two_zero)) (ap not (false_unless (point_eq j.one j.two) (λ e. j.apart (point_eq-to j.one j.two e))))))

-- ---- lists of traces by their angles
-- each trace is before all behind it
pub IsSorted : List Trace → Type 0
IsSorted [] = Unit {0}
IsSorted (t ∷ ts) = ((u : Trace) → Listed u ts → is_angle_before t u ≡ true) × IsSorted ts

-- a trace of a list is the first one, or one behind it
front_cases : (u v : Trace) (xs : List Trace) → Listed u (v ∷ xs) → (u ≡ v) ⊎ Listed u xs
front_cases u v xs first = inl refl
front_cases u v xs (later l) = inr l

module _ (z : ℤ) (cell : List HalfSpace) (steps : List RingStep) (ring : IsRingOf z (traces z (with_sides cell)) steps) where
  -- the traces of the flat list
  abbrev pub ts : List Trace
  ts = traces z (with_sides cell)

  -- a trace of the flat list is one of the edges of the ring where the test says so
  pub edge_is : (t : Trace) → Listed t ts → is_edge_of (corners z ts) t ≡ true → HasEdge steps t
  edge_is t l e =
      let j = edge_to (corners z ts) t e in
      edge_at_two z (with_sides cell) steps ring t l j.one j.two (corner_spot z ts j.one j.one_listed) (corner_spot z ts j.two j.two_listed) j.one_zero j.two_zero j.apart

  -- a cross product above 0 is not 0
  left_not_zero : (c : ℤ) → pos 0 <ℤ c → c ≡ pos 0 → ⊥
  left_not_zero c h e = omega (arith, linear, h, e)

  -- an end of the ring is a corner
  end_corner : (u : Turn) → Listed u (turns_of steps) → Listed u.step.end (corners z ts)
  end_corner u l =
      let j = joins steps u l in
      let k = ring.turns u l in
      spot_corner z ts u.step.end u.step.edge u.next.edge (end_spot z ts u.step (ring.each u.step j.step)) (ring.each u.step j.step).edge (ring.each u.next j.next).edge
      (record { first_zero = k.on_edge; second_zero = k.on_next; crossed = left_not_zero (cross u.step.edge u.next.edge) k.left })

  -- an edge of the ring passes the test
  pub is_edge : (s : RingStep) → Listed s steps → is_edge_of (corners z ts) s.edge ≡ true
  is_edge s l =
      let b = backward steps s l in
      let o = onward steps s l in
      let t = ring.turns (turn_of b.from s) b.listed in
      edge_from (corners z ts) s.edge (record {
        one = b.from.end;
        two = s.end;
        one_listed = end_corner (turn_of b.from s) b.listed;
        two_listed = end_corner (turn_of s o.to) o.listed;
        one_zero = t.on_next;
        two_zero = on_edge z ts steps ring s l;
        apart = t.apart;
      })

  -- ---- the order of the edges of the ring
  -- of two steps of a rising list one is before the other, or they have one edge
  compared : (rs : List RingStep) → HaveDirections rs → angles_rise rs ≡ true → (s t : RingStep) → Listed s rs → Listed t rs → (s.edge ≡ t.edge) ⊎ ((is_angle_before s.edge t.edge ≡ true) ⊎ (is_angle_before t.edge s.edge ≡ true))
  compared [] d e s t l k = elim l [ ]
  compared (r ∷ rs) d e s t first first = inl refl
  compared (r ∷ rs) d e s t first (later k) = inr (inl (before_rest r rs d e t k))
  compared (r ∷ rs) d e s t (later l) first = inr (inr (before_rest r rs d e s l))
  compared (r ∷ rs) d e s t (later l) (later k) = compared rs (λ u m. d u (later m)) (rising_rest r rs e) s t l k

  -- the same of edges
  edges_compared : (s t : Trace) → HasEdge steps s → HasEdge steps t → (s ≡ t) ⊎ ((is_angle_before s t ≡ true) ⊎ (is_angle_before t s ≡ true))
  edges_compared s t h k =
      ⊎_elim
      (λ e. inl (sym h.same ∙ e ∙ k.same))
      (λ o. inr (⊎_elim
      (λ e. inl (subst (λ x. is_angle_before x t ≡ true) h.same (subst (λ x. is_angle_before h.step.edge x ≡ true) k.same e)))
      (λ e. inr (subst (λ x. is_angle_before x s ≡ true) k.same (subst (λ x. is_angle_before k.step.edge x ≡ true) h.same e))) o))
      (compared steps (have_directions z (with_sides cell) steps ring) ring.rising h.step k.step h.listed k.listed)

  -- the direction of an edge
  pub edge_direction : (t : Trace) → HasEdge steps t → IsDirection t.a t.b
  edge_direction t h = subst (λ (u : Trace). IsDirection u.a u.b) h.same (have_directions z (with_sides cell) steps ring h.step h.listed)

  -- ---- a trace set in
  -- edges of the ring alone
  abbrev pub AreEdges : List Trace → Type 0
  AreEdges es = (t : Trace) → Listed t es → HasEdge steps t

  -- what is set in is there, and what was there is
  set_in : (t : Trace) (es : List Trace) → HasEdge steps t → AreEdges es → (Listed t (insert_edge t es)) × ((u : Trace) → Listed u es → Listed u (insert_edge t es))
  set_in t [] h k = (first, λ u l. elim l [ ])
  set_in t (s ∷ es) h k =
      by_test (set_in t es h (λ u l. k u (later l))) (is_angle_before t s) (is_angle_before s t) refl refl
    where
      by_test : (Listed t (insert_edge t es)) × ((u : Trace) → Listed u es → Listed u (insert_edge t es)) → (b c : Bool) → is_angle_before t s ≡ b → is_angle_before s t ≡ c
          → (Listed t (elim b [ true ↦ t ∷ s ∷ es | false ↦ elim c [ true ↦ s ∷ insert_edge t es | false ↦ s ∷ es ] ])) × ((u : Trace) → Listed u (s ∷ es) → Listed u (elim b [ true ↦ t ∷ s ∷ es | false ↦ elim c [ true ↦ s ∷ insert_edge t es | false ↦ s ∷ es ] ]))
      by_test rest true c eb ec = (first, λ u l. later l)
      by_test rest false true eb ec = (later rest.0, each)
        where
          each : (u : Trace) → Listed u (s ∷ es) → Listed u (s ∷ insert_edge t es)
          each u first = first
          each u (later l) = later (rest.1 u l)
      by_test rest false false eb ec = (
        subst (λ x. Listed x (s ∷ es)) (sym (same_of (edges_compared t s h (k s first)))) first,
        λ u l. l,
      )
        where
          same_of : (t ≡ s) ⊎ ((is_angle_before t s ≡ true) ⊎ (is_angle_before s t ≡ true)) → t ≡ s
          same_of o = ⊎_elim (λ e. e) (λ r. ⊎_elim (λ e. absurd (false_not_true (is_angle_before t s) e eb)) (λ e. absurd (false_not_true (is_angle_before s t) e ec)) r) o

  -- what is there afterwards was there, or is the trace
  was_there : (t : Trace) (es : List Trace) (u : Trace) → Listed u (insert_edge t es) → (u ≡ t) ⊎ Listed u es
  was_there t [] u l = front_cases u t [] l
  was_there t (s ∷ es) u l = by_test (λ m. was_there t es u m) (is_angle_before t s) (is_angle_before s t) l
    where
      by_test : (Listed u (insert_edge t es) → (u ≡ t) ⊎ Listed u es) → (b c : Bool) → Listed u (elim b [ true ↦ t ∷ s ∷ es | false ↦ elim c [ true ↦ s ∷ insert_edge t es | false ↦ s ∷ es ] ]) → (u ≡ t) ⊎ Listed u (s ∷ es)
      by_test rest true c m = front_cases u t (s ∷ es) m
      by_test rest false true m = ⊎_elim (λ e. inr (subst (λ x. Listed x (s ∷ es)) (sym e) first)) (λ k. ⊎_elim inl (λ i. inr (later i)) (rest k)) (front_cases u s (insert_edge t es) m)
      by_test rest false false m = inr m

  -- a sorted list stays sorted
  stays_sorted : (t : Trace) (es : List Trace) → HasEdge steps t → AreEdges es → IsSorted es → IsSorted (insert_edge t es)
  unfolding IsSorted
  stays_sorted t [] h k o = (λ u l. elim l [ ], tt)
  stays_sorted t (s ∷ es) h k o = by_test (stays_sorted t es h (λ u l. k u (later l)) o.1) (is_angle_before t s) (is_angle_before s t) refl refl
    where
      by_test : IsSorted (insert_edge t es) → (b c : Bool) → is_angle_before t s ≡ b → is_angle_before s t ≡ c → IsSorted (elim b [ true ↦ t ∷ s ∷ es | false ↦ elim c [ true ↦ s ∷ insert_edge t es | false ↦ s ∷ es ] ])
      by_test rest true c eb ec = (each, o)
        where
          each : (u : Trace) → Listed u (s ∷ es) → is_angle_before t u ≡ true
          each u first = eb
          each u (later l) = before_chain t s u (edge_direction t h) (edge_direction s (k s first)) (edge_direction u (k u (later l))) eb (o.0 u l)
      by_test rest false true eb ec = (λ u l. ⊎_elim (λ e. subst (λ x. is_angle_before s x ≡ true) (sym e) ec) (λ m. o.0 u m) (was_there t es u l), rest)
      by_test rest false false eb ec = o

  -- ---- the edges that are found
  -- among some traces of the flat list
  pub record Found (xs es : List Trace) : Type 0 where
    pub sorted : IsSorted es
    pub edges : AreEdges es
    pub all : (t : Trace) → Listed t xs → HasEdge steps t → Listed t es

  -- all edges among them are found
  pub edges_found : (xs : List Trace) → ((t : Trace) → Listed t xs → Listed t ts) → Found xs (edges_among (corners z ts) xs)
  unfolding IsSorted
  edges_found [] sub = record { sorted = tt; edges = λ t l. elim l [ ]; all = λ t l h. elim l [ ] }
  edges_found (x ∷ xs) sub = by_test (edges_found xs (λ t l. sub t (later l))) (is_edge_of (corners z ts) x) refl
    where
      by_test : Found xs (edges_among (corners z ts) xs) → (b : Bool) → is_edge_of (corners z ts) x ≡ b → Found (x ∷ xs) (elim b [ true ↦ insert_edge x (edges_among (corners z ts) xs) | false ↦ edges_among (corners z ts) xs ])
      by_test f true e =
          let h = edge_is x (sub x first) e in
          let s = set_in x (edges_among (corners z ts) xs) h f.edges in
          record {
            sorted = stays_sorted x (edges_among (corners z ts) xs) h f.edges f.sorted;
            edges = λ t l. ⊎_elim (λ q. subst (λ u. HasEdge steps u) (sym q) h) (λ m. f.edges t m) (was_there x (edges_among (corners z ts) xs) t l);
            all = each s.0 s.1;
          }
        where
          each : Listed x (insert_edge x (edges_among (corners z ts) xs)) → ((u : Trace) → Listed u (edges_among (corners z ts) xs) → Listed u (insert_edge x (edges_among (corners z ts) xs))) → (t : Trace) → Listed t (x ∷ xs) → HasEdge steps t → Listed t (insert_edge x (edges_among (corners z ts) xs))
          each here more t first h = here
          each here more t (later l) h = more t (f.all t l h)
      by_test f false e = record { sorted = f.sorted; edges = f.edges; all = each }
        where
          each : (t : Trace) → Listed t (x ∷ xs) → HasEdge steps t → Listed t (edges_among (corners z ts) xs)
          each t first h = absurd (false_not_true (is_edge_of (corners z ts) x) (subst (λ u. is_edge_of (corners z ts) u ≡ true) h.same (is_edge h.step h.listed)) e)
          each t (later l) h = f.all t l h

-- ---- the steps along them
-- edges as steps, with any ends
abbrev pub as_steps : List Trace → List RingStep
as_steps es = map (λ e. record { edge = e; end = point_of (pos 0) (pos 0) (pos 0) (pos 1) }) es

-- a step of them has an edge of the list
pub as_edge : (es : List Trace) (s : RingStep) → Listed s (as_steps es) → Listed s.edge es
as_edge [] s l = elim l [ ]
as_edge (e ∷ es) s first = first
as_edge (e ∷ es) s (later l) = later (as_edge es s l)

-- an edge of the list has a step of them
pub edge_as : (es : List Trace) (e : Trace) → Listed e es → HasEdge (as_steps es) e
edge_as [] e l = elim l [ ]
edge_as (f ∷ es) e first = record { step = record { edge = f; end = point_of (pos 0) (pos 0) (pos 0) (pos 1) }; listed = first; same = refl }
edge_as (f ∷ es) e (later l) = let h = edge_as es e l in record { step = h.step; listed = later h.listed; same = h.same }

-- they rise where the list is sorted
pub as_rising : (es : List Trace) → IsSorted es → angles_rise (as_steps es) ≡ true
unfolding IsSorted
as_rising [] o = refl
as_rising (e ∷ []) o = refl
as_rising (e ∷ f ∷ es) o = and_true _ _ (o.0 f first) (as_rising (f ∷ es) o.1)

-- a step along an edge to the next one is the step of the ring
same_step : (z : ℤ) (e g : Trace) (s h : RingStep) → e ≡ s.edge → g ≡ h.edge → EndsAt z (turn_of s h) → step_to z e g ≡ s
same_step z e g s h es gh k =
    let m = meeting_is z s.edge h.edge s.end k.end k.height k.turn.on_edge k.turn.on_next (λ c. not_zero (cross s.edge h.edge) k.turn.left c) in
    λ i. record { edge = es i; end = ((λ j. elim (trace_meeting z (es j) (gh j)) [ Some p ↦ p | None ↦ level_point z ]) ∙ (λ j. elim (m j) [ Some p ↦ p | None ↦ level_point z ])) i }
  where
    not_zero : (c : ℤ) → pos 0 <ℤ c → c ≡ pos 0 → ⊥
    not_zero c h e = omega (arith, linear, h, e)

-- so the steps are those of the ring
same_steps_to : (z : ℤ) (g : Trace) (h : RingStep) (es : List Trace) (steps : List RingStep) → g ≡ h.edge → SameEdges (as_steps es) steps → ((u : Turn) → Listed u (turns_to h steps) → EndsAt z u) → steps_to z g es ≡ steps
same_steps_to z g h [] [] gh k t = refl
same_steps_to z g h [] (s ∷ steps) gh k t = absurd k
same_steps_to z g h (e ∷ es) [] gh k t = absurd k
same_steps_to z g h (e ∷ []) (s ∷ []) gh k t = ap (λ r. r ∷ []) (same_step z e g s h k.0 gh (t _ first))
same_steps_to z g h (e ∷ []) (s ∷ r ∷ steps) gh k t = absurd k.1
same_steps_to z g h (e ∷ f ∷ es) (s ∷ []) gh k t = absurd k.1
same_steps_to z g h (e ∷ f ∷ es) (s ∷ r ∷ steps) gh k t =
    λ i. same_step z e f s r k.0 k.1.0 (t _ first) i ∷ same_steps_to z g h (f ∷ es) (r ∷ steps) gh k.1 (λ u l. t u (later l)) i

-- all of them
same_steps_along : (z : ℤ) (ts : List Trace) (es : List Trace) (steps : List RingStep) → IsRingOf z ts steps → SameEdges (as_steps es) steps → steps_along z es ≡ steps
same_steps_along z all [] [] ring k = refl
same_steps_along z all [] (s ∷ steps) ring k = absurd k
same_steps_along z all (e ∷ es) [] ring k = absurd k
same_steps_along z all (e ∷ es) (s ∷ steps) ring k = same_steps_to z e s (e ∷ es) (s ∷ steps) k.0 k (ends_at z all (s ∷ steps) ring)

-- ---- the ring
-- the ring that is found is the ring
pub ring_of-is : (z : ℤ) (cell : List HalfSpace) (steps : List RingStep) → IsRingOf z (traces z (with_sides cell)) steps → ring_of z cell ≡ steps
unfolding ring_of
ring_of-is z cell steps ring =
    let ts = traces z (with_sides cell) in
    let es = edges_among (corners z ts) ts in
    let f = edges_found z cell steps ring ts (λ t l. l) in
    same_steps_along z ts es steps ring
    (same_edges (as_steps es) steps
    (λ s l. edge_direction z cell steps ring s.edge (f.edges s.edge (as_edge es s l)))
    (have_directions z (with_sides cell) steps ring)
    (as_rising es f.sorted) ring.rising
    (λ s l. f.edges s.edge (as_edge es s l))
    (λ s l. edge_as es s.edge (f.all s.edge (ring.each s l).edge (record { step = s; listed = l; same = refl }))))

-- the law
pub ring_is_found_spec : RingIsFound
ring_is_found_spec z cell hz k m =
    let r = member_has_ring_spec z cell hz k m in
    subst (λ steps. IsRing z cell steps) (sym (ring_of-is z cell r.0 (ring_to z cell r.0 r.1))) r.1

-- ---- slices
-- an answer that is none
is_none_of : (o : Option (List Multiple)) → o ≡ None → IsNone o
is_none_of (Some terms) e = absurd (some_not_none terms e)
is_none_of None e = refl

module _ (z : ℤ) (cell : List HalfSpace) (hz : IsHeight z) (k : AreHalfSpaces cell) where
  -- the slice, by what the search finds
  abbrev slice_by : Option (List Multiple) → Slice
  slice_by o = elim o [ Some terms ↦ Slice.flat terms | None ↦ Slice.ring (ring_of z cell) ]

  -- where the search finds none there is a ring
  pub none_ring : first_flat z cell ≡ None → IsRing z cell (ring_of z cell)
  none_ring e = ring_is_found_spec z cell hz k ((finds_flat z cell hz k).none.0 (is_none_of (first_flat z cell) e))

  -- a certificate that is found is the first
  some_first : (terms : List Multiple) → first_flat z cell ≡ Some terms → IsFirstFlat z cell terms
  some_first terms e = of_some (first_flat z cell) e (first_flat_is_first_spec z cell k).0
    where
      of_some : (o : Option (List Multiple)) → o ≡ Some terms → IfSome o (λ us. IsFirstFlat z cell us) → IsFirstFlat z cell terms
      of_some (Some us) s h = subst (λ vs. IsFirstFlat z cell vs) (same_some us terms s) h
      of_some None s h = absurd (none_not_some terms s)

  -- the slice is the one to be shown
  slice_is : (o : Option (List Multiple)) → first_flat z cell ≡ o → IsSliceOf z cell (slice_by o)
  slice_is (Some terms) e = some_first terms e
  slice_is None e = none_ring e

  -- where there is a ring the search finds none
  pub ring_none : (steps : List RingStep) → IsRing z cell steps → (o : Option (List Multiple)) → first_flat z cell ≡ o → first_flat z cell ≡ None
  ring_none steps r (Some terms) e = absurd (never_flat z cell m.0 terms m.1 (found_is_flat z cell k terms e))
    where
      m : HasMemberAt z cell
      m = ring_shows_member_spec z cell steps hz r
  ring_none steps r None e = e

  -- there is no other
  slice_only : (s : Slice) → IsSliceOf z cell s → s ≡ slice_by (first_flat z cell)
  slice_only (Slice.ring steps) r =
      let e = ring_none steps r (first_flat z cell) refl in
      ap Slice.ring (ring_is_the_only_one_spec z cell steps (ring_of z cell) r (none_ring e)) ∙ (λ i. slice_by (sym e i))
  slice_only (Slice.flat terms) f = λ i. slice_by (sym ((first_flat_is_first_spec z cell k).1 terms f) i)

  -- it passes the test
  slice_passes : (o : Option (List Multiple)) → first_flat z cell ≡ o → is_slice z cell (slice_by o) ≡ true
  slice_passes (Some terms) e = found_is_flat z cell k terms e
  slice_passes None e = none_ring e

  -- all of it, of one cell
  finds_slice : FindsSlice z cell
  unfolding slice_of
  finds_slice = record { is = slice_is (first_flat z cell) refl; only = slice_only; passes = slice_passes (first_flat z cell) refl }

-- the law
pub slice_is_found_spec : SliceIsFound
slice_is_found_spec z cell hz k = finds_slice z cell hz k
