-- Which sides bound a section: where a cell has a ring, those whose traces are its edges.
use Rattle.std.proofs.Common.{◌≡◌, ℤ, pos, neg_ℤ, ◌+ℤ◌, ◌*ℤ◌, ◌≤ℤ◌, ◌<ℤ◌, Bool, true, false, ◌&&◌, ◌||◌, not, List, [], ◌∷◌, map, ◌⊎◌, inl, inr, ⊎_elim, Option, Some, None, refl, sym, ap, ◌∙◌, subst, arith}
use Rattle.std.specs.Prelude.{is_some, option_map}
use Rattle.std.specs.List.{list_any}
use Rattle.std.proofs.lemmas.Int.{ints}
use Rattle.rp_algebra.specs.Integer.{is_zero, is_positive, is_nonnegative}
use Rattle.rp_algebra.proofs.IntLaws.{linear, trichotomy_ℤ, cancel_mul_left_ℤ, cancel_mul_ne_ℤ}
use Rattle.rp_algebra.proofs.Numbers.{zero_or_not, above_not_zero, below_not_zero, nonpos_of_neg, neg_positive}
use Rattle.rp_algebra.proofs.Options.{none_not_some, same_some}
use Rattle.rp_algebra.proofs.Reify.{by_ring_at, reify}
use Rattle.rp_algebra.proofs.Tests.{and_first, and_second, and_true, zero_is, is_zero_true, is_zero_false, is_positive_true, is_positive_false, nonnegative_is, is_nonnegative_true, false_not_true, same_test}
use Rattle.rp_algebra.proofs.Listed.{Listed, first, later, all_pass, pass_all}
use Rattle.rp_algebra.proofs.Filter.{passes_some, some_passes, SomePasses}
use Rattle.rp_geometry.specs.Geometry.{RationalPoint, HalfSpace, IsPoint, side_value, reduced_point}
use Rattle.rp_geometry.specs.searches.Search.{first_of}
use Rattle.rp_geometry.specs.searches.Vertex.{cramer_point, negated_point, meeting_point}
use Rattle.rp_geometry.specs.sections.Trace.{IsAtHeight, Trace, has_trace, trace_at, trace_value, with_sides, traces, trace_before}
use Rattle.rp_geometry.specs.sections.Ring.{RingStep, turn_of, cross, crossing, trace_meeting, is_edge_of, corners, edges_among, insert_edge, is_angle_before}
use Rattle.rp_geometry.specs.laws.SectionLaws.{level_plane}
use Rattle.rp_convex.proofs.Lowest.{reduced_is}
use Rattle.rp_convex.proofs.Reduced.{same_sign_reduced}
use Rattle.rp_convex.proofs.Signs.{HaveSameSign}
use Rattle.rp_slice.proofs.Traces.{direction_of, trace_at-is, side_of_trace, trace_from, trace_listed}
use Rattle.rp_slice.proofs.Turns.{onward, backward, joins}
use Rattle.rp_slice.proofs.Rings.{IsRingOf}
use Rattle.rp_slice.proofs.Unique.{HasEdge, edge_at_two, end_spot}
use Rattle.rp_slice.proofs.Spots.{IsSpot, cross_turned}
use Rattle.rp_slice.proofs.RingFound.{meeting_is, meeting_plain, normal_above, normal_below, normal_zero, edge_is, is_edge, crossing_first, crossing_second, negated_value}
use Rattle.rp_slice.proofs.Sizes.{parallel_none, traces_meet_where_planes_do_spec}
use Rattle.rp_cert.proofs.Traced.{side_sign}
use Rattle.rp_space.specs.PositivePoint.{positive_point}
use Rattle.rp_space.proofs.Positive.{reduced_positive}
use Rattle.rp_section.specs.declared.side.Side.{Side}
use Rattle.rp_section.specs.Sides.{side_of, sides_of, are_above, if_above, spot_at, is_other, has_other, is_bound, insert_side, bounds_of}

-- ---- sides

-- a side of a list of half-spaces: one of them that has a trace, with it
pub record IsSideIn (z : ℤ) (hs : List HalfSpace) (s : Side) : Type 0 where
  pub listed : Listed s.half hs
  pub has : has_trace s.half ≡ true
  pub edge : s.edge ≡ trace_at z s.half

-- one of the rest
later_side : (z : ℤ) (h : HalfSpace) (hs : List HalfSpace) (s : Side) → IsSideIn z hs s → IsSideIn z (h ∷ hs) s
later_side z h hs s k = record { listed = later k.listed; has = k.has; edge = k.edge }

-- the sides of a list are such
pub side_in : (z : ℤ) (hs : List HalfSpace) (s : Side) → Listed s (sides_of z hs) → IsSideIn z hs s
side_in z [] s l = elim l [ ]
side_in z (h ∷ hs) s l = by_test (λ m. side_in z hs s m) (has_trace h) refl l
  where
    of_first : has_trace h ≡ true → (t : Side) → t ≡ side_of z h → (rest : List Side) → (Listed s rest → IsSideIn z hs s) → Listed s (t ∷ rest) → IsSideIn z (h ∷ hs) s
    of_first e t k rest r first = record { listed = subst (λ (g : Side). Listed g.half (h ∷ hs)) (sym k) first; has = ap (λ (g : Side). has_trace g.half) k ∙ e; edge = ap (λ (g : Side). g.edge) k ∙ ap (λ (g : Side). trace_at z g.half) (sym k) }
    of_first e t k rest r (later m) = later_side z h hs s (r m)

    by_test : (Listed s (sides_of z hs) → IsSideIn z hs s) → (b : Bool) → has_trace h ≡ b → Listed s (elim b [ true ↦ side_of z h ∷ sides_of z hs | false ↦ sides_of z hs ]) → IsSideIn z (h ∷ hs) s
    by_test r true e m = of_first e (side_of z h) refl (sides_of z hs) r m
    by_test r false e m = later_side z h hs s (r m)

-- each half-space with a trace is among them
pub side_listed : (z : ℤ) (hs : List HalfSpace) (h : HalfSpace) → Listed h hs → has_trace h ≡ true → Listed (side_of z h) (sides_of z hs)
side_listed z [] h l e = elim l [ ]
side_listed z (k ∷ hs) h first e = subst (λ (b : Bool). Listed (side_of z k) (elim b [ true ↦ side_of z k ∷ sides_of z hs | false ↦ sides_of z hs ])) (sym e) first
side_listed z (k ∷ hs) h (later l) e = behind (has_trace k) (side_listed z hs h l e)
  where
    behind : (b : Bool) → Listed (side_of z h) (sides_of z hs) → Listed (side_of z h) (elim b [ true ↦ side_of z k ∷ sides_of z hs | false ↦ sides_of z hs ])
    behind true m = later m
    behind false m = m

-- the edges of sides
abbrev pub edges_on : List Side → List Trace
edges_on sides = map (λ (s : Side). s.edge) sides

-- they are the traces of the list
pub side_edges : (z : ℤ) (hs : List HalfSpace) → edges_on (sides_of z hs) ≡ traces z hs
side_edges z [] = refl
side_edges z (h ∷ hs) = by_test (has_trace h) (side_edges z hs)
  where
    by_test : (b : Bool) → edges_on (sides_of z hs) ≡ traces z hs → edges_on (elim b [ true ↦ side_of z h ∷ sides_of z hs | false ↦ sides_of z hs ]) ≡ trace_before b (trace_at z h) (traces z hs)
    by_test true e = ap (λ ts. trace_at z h ∷ ts) e
    by_test false e = e

-- ---- points on two sides

-- the value of a trace at a point in lowest terms
reduced_zero : (t : Trace) (p : RationalPoint) → IsPoint p → trace_value t p ≡ pos 0 → trace_value t (reduced_point p) ≡ pos 0
reduced_zero t p h e =
    let r = reduced_is p h in
    let m = r.multiple in
    cancel_mul_ne_ℤ m.factor (trace_value t (reduced_point p)) m.nonzero
    (by_ring_at (t.a ∷ t.b ∷ t.d ∷ (reduced_point p).x ∷ (reduced_point p).y ∷ (reduced_point p).w ∷ m.factor ∷ [])
    {y = t.a *ℤ ((reduced_point p).x *ℤ m.factor) +ℤ t.b *ℤ ((reduced_point p).y *ℤ m.factor) +ℤ t.d *ℤ ((reduced_point p).w *ℤ m.factor)} (search reify depth 40 fits 100000) tt
    ∙ (λ i. t.a *ℤ m.x i +ℤ t.b *ℤ m.y i +ℤ t.d *ℤ m.w i) ∙ e)

-- both traces are 0 where they meet
pub meeting_zero : (z : ℤ) (s t : Trace) (q : RationalPoint) → trace_meeting z s t ≡ Some q → (trace_value s q ≡ pos 0) × (trace_value t q ≡ pos 0)
unfolding trace_meeting
meeting_zero z s t q e =
    let c = crossing z s t in
    let sc = crossing_first s.a s.b s.d t.a t.b t.d in
    let tc = crossing_second s.a s.b s.d t.a t.b t.d in
    ⊎_elim
    (λ (low : cross s t <ℤ pos 0).
    let w = neg_positive (cross s t) low in
    subst (λ (r : RationalPoint). (trace_value s r ≡ pos 0) × (trace_value t r ≡ pos 0)) (same_some _ q (sym (normal_below c low) ∙ e))
    (reduced_zero s (negated_point c) w (negated_value s c sc), reduced_zero t (negated_point c) w (negated_value t c tc)))
    (λ r. ⊎_elim
    (λ (zero : cross s t ≡ pos 0). absurd (none_not_some q (sym (normal_zero c zero) ∙ e)))
    (λ (high : pos 0 <ℤ cross s t).
    subst (λ (r : RationalPoint). (trace_value s r ≡ pos 0) × (trace_value t r ≡ pos 0)) (same_some _ q (sym (normal_above c high) ∙ e))
    (reduced_zero s c high sc, reduced_zero t c high tc)) r)
    (trichotomy_ℤ (cross s t) (pos 0))

-- a point with a positive weight has one
positive_weight : (c p : RationalPoint) → positive_point c ≡ Some p → IsPoint p
positive_weight c p e =
    ⊎_elim
    (λ (low : c.w <ℤ pos 0). subst IsPoint (same_some _ p (sym (given_below low) ∙ e)) (neg_positive c.w low))
    (λ r. ⊎_elim
    (λ (zero : c.w ≡ pos 0). absurd (none_not_some p (sym (given_zero zero) ∙ e)))
    (λ (high : pos 0 <ℤ c.w). subst IsPoint (same_some _ p (sym (given_above high) ∙ e)) high) r)
    (trichotomy_ℤ c.w (pos 0))
  where
    given_zero : c.w ≡ pos 0 → positive_point c ≡ None
    given_zero k = λ i. elim (is_zero_true c.w k i) [ true ↦ None | false ↦ elim (is_positive c.w) [ true ↦ Some c | false ↦ Some (negated_point c) ] ]

    given_above : pos 0 <ℤ c.w → positive_point c ≡ Some c
    given_above h =
        (λ i. elim (is_zero_false c.w (above_not_zero c.w h) i) [ true ↦ None | false ↦ elim (is_positive c.w) [ true ↦ Some c | false ↦ Some (negated_point c) ] ])
        ∙ (λ i. elim (is_positive_true c.w h i) [ true ↦ Some c | false ↦ Some (negated_point c) ])

    given_below : c.w <ℤ pos 0 → positive_point c ≡ Some (negated_point c)
    given_below h =
        (λ i. elim (is_zero_false c.w (below_not_zero c.w h) i) [ true ↦ None | false ↦ elim (is_positive c.w) [ true ↦ Some c | false ↦ Some (negated_point c) ] ])
        ∙ (λ i. elim (is_positive_false c.w (nonpos_of_neg c.w h) i) [ true ↦ Some c | false ↦ Some (negated_point c) ])

-- an answer with a value
pub record Has {B : Type 0} (o : Option B) : Type 0 where
  pub value : B
  pub is : o ≡ Some value

-- one that is mapped has one
mapped_has : {A B : Type 0} (f : A → B) (o : Option A) (v : B) → option_map f o ≡ Some v → Has o
mapped_has f (Some u) v e = record { value = u; is = refl }
mapped_has f None v e = absurd (none_not_some v e)

-- where a search over the items gives something
record GivenAt {A B : Type 0} (F : A → Option B) (xs : List A) (y : B) : Type 0 where
  item : A
  listed : Listed item xs
  is : F item ≡ Some y

-- it is the answer of an item
first_given : {A B : Type 0} (F : A → Option B) (xs : List A) (y : B) → first_of F xs ≡ Some y → GivenAt F xs y
first_given F [] y e = absurd (none_not_some y e)
first_given {A} {B} F (x ∷ xs) y e = by_answer (F x) refl e (λ k. first_given F xs y k)
  where
    by_answer : (o : Option B) → F x ≡ o → elim o [ Some v ↦ Some v | None ↦ first_of F xs ] ≡ Some y → (first_of F xs ≡ Some y → GivenAt F xs y) → GivenAt F (x ∷ xs) y
    by_answer (Some v) k f rest = record { item = x; listed = first; is = k ∙ f }
    by_answer None k f rest = let r = rest f in record { item = r.item; listed = later r.listed; is = r.is }

-- an item of a list is the first one, or one behind it
front_cases : {A : Type 0} (u v : A) (xs : List A) → Listed u (v ∷ xs) → (u ≡ v) ⊎ Listed u xs
front_cases u v xs first = inl refl
front_cases u v xs (later l) = inr l

-- and there is one where an item has one
first_has : {A B : Type 0} (F : A → Option B) (xs : List A) (x : A) (y : B) → Listed x xs → F x ≡ Some y → Has (first_of F xs)
first_has F [] x y l e = elim l [ ]
first_has {A} {B} F (w ∷ xs) x y l e =
    by_answer (F w) refl (⊎_elim (λ (s : x ≡ w). inl (ap F (sym s) ∙ e)) (λ m. inr (first_has F xs x y m e)) (front_cases x w xs l))
  where
    by_answer : (o : Option B) → F w ≡ o → (F w ≡ Some y) ⊎ Has (first_of F xs) → Has (elim o [ Some v ↦ Some v | None ↦ first_of F xs ])
    by_answer (Some v) k r = record { value = v; is = refl }
    by_answer None k r = ⊎_elim (λ g. absurd (none_not_some y (sym k ∙ g))) (λ h. h) r

-- a test whose negation passes fails
not_passes : (b : Bool) → not b ≡ true → b ≡ true → ⊥
not_passes true e f = false_not_true false e refl
not_passes false e f = false_not_true false f refl

-- an answer that is something has a value
some_has : {B : Type 0} (o : Option B) → is_some o ≡ true → Has o
some_has (Some v) e = record { value = v; is = refl }
some_has None e = absurd (false_not_true false e refl)

module _ (z : ℤ) (cell : List HalfSpace) (steps : List RingStep) (ring : IsRingOf z (traces z (with_sides cell)) steps) where
  -- the sides of the cell
  abbrev pub all : List Side
  all = sides_of z (with_sides cell)

  -- their edges
  abbrev ts : List Trace
  ts = traces z (with_sides cell)

  -- a point of the height is above the sides where no trace is negative there
  above_weak : (q : RationalPoint) → IsAtHeight z q → are_above all q ≡ true → (t : Trace) → Listed t ts → pos 0 ≤ℤ trace_value t q
  above_weak q h e t l =
      let c = trace_from z (with_sides cell) t l in
      let a = all_pass (λ (s : Side). is_nonnegative (side_value s.half q)) all e (side_of z c.of) (side_listed z (with_sides cell) c.of c.listed c.has) in
      subst (λ (u : Trace). pos 0 ≤ℤ trace_value u q) (sym c.same) (nonnegative_is _ (sym (side_sign z c.of q c.has h) ∙ a))

  -- and the other way round
  weak_above : (q : RationalPoint) → IsAtHeight z q → ((t : Trace) → Listed t ts → pos 0 ≤ℤ trace_value t q) → are_above all q ≡ true
  weak_above q h w =
      pass_all (λ (s : Side). is_nonnegative (side_value s.half q)) all
      (λ s l.
      let k = side_in z (with_sides cell) s l in
      side_sign z s.half q k.has h ∙ is_nonnegative_true _ (w (trace_at z s.half) (trace_listed z (with_sides cell) s.half k.listed k.has)))

  -- it is so at a point where it is in lowest terms
  above_reduced : (p : RationalPoint) → IsPoint p → are_above all p ≡ are_above all (reduced_point p)
  above_reduced p h = over all
    where
      nonnegative_same : (u v : ℤ) → HaveSameSign u v → is_nonnegative u ≡ is_nonnegative v
      nonnegative_same u v k = by_sign u ∙ (λ i. k.positive i || k.zero i) ∙ sym (by_sign v)
        where
          by_sign : (x : ℤ) → is_nonnegative x ≡ (is_positive x || is_zero x)
          by_sign x = grind (arith, ints)

      over : (sides : List Side) → are_above sides p ≡ are_above sides (reduced_point p)
      over [] = refl
      over (s ∷ sides) = λ i. nonnegative_same _ _ (same_sign_reduced s.half p h) i && over sides i

  -- what a point on two sides is, in lowest terms
  record IsSpotOn (f g : Side) (p : RationalPoint) : Type 0 where
    point : IsPoint p
    meets : trace_meeting z f.edge g.edge ≡ Some (reduced_point p)
    spot : IsSpot z ts (reduced_point p)
    on_first : trace_value f.edge (reduced_point p) ≡ pos 0
    on_second : trace_value g.edge (reduced_point p) ≡ pos 0

  -- where the planes of two sides and that of the height meet their edges do
  pub meeting_same : (f g : Side) → Listed f all → Listed g all → meeting_point f.half g.half (level_plane z) ≡ trace_meeting z f.edge g.edge
  meeting_same f g lf lg =
      let kf = side_in z (with_sides cell) f lf in
      let kg = side_in z (with_sides cell) g lg in
      sym (traces_meet_where_planes_do_spec z f.half g.half kf.has kg.has) ∙ (λ i. trace_meeting z (sym kf.edge i) (sym kg.edge i))

  -- such a point that is found is one
  spot_is : (f g : Side) (p : RationalPoint) → Listed f all → Listed g all → spot_at (level_plane z) all f g ≡ Some p → IsSpotOn f g p
  unfolding meeting_point
  spot_is f g p lf lg e = by_point (positive_point c) refl e
    where
      c : RationalPoint
      c = cramer_point f.half g.half (level_plane z)

      made : (q : RationalPoint) → positive_point c ≡ Some q → are_above all q ≡ true → IsSpotOn f g q
      made q k a =
          let h = positive_weight c q k in
          let m = sym (meeting_same f g lf lg) ∙ sym (reduced_positive c) ∙ ap (option_map reduced_point) k in
          let n = meeting_plain z f.edge g.edge (reduced_point q) m in
          let zero = meeting_zero z f.edge g.edge (reduced_point q) m in
          record {
            point = h;
            meets = m;
            spot = record { lowest = n.lowest; height = n.height; weak = above_weak (reduced_point q) n.height (sym (above_reduced q h) ∙ a) };
            on_first = zero.0;
            on_second = zero.1;
          }

      by_test : (q : RationalPoint) → positive_point c ≡ Some q → (b : Bool) → are_above all q ≡ b → elim b [ true ↦ Some q | false ↦ None ] ≡ Some p → IsSpotOn f g p
      by_test q k true a r = subst (λ (u : RationalPoint). IsSpotOn f g u) (same_some q p r) (made q k a)
      by_test q k false a r = absurd (none_not_some p r)

      by_point : (o : Option RationalPoint) → positive_point c ≡ o → if_above all o ≡ Some p → IsSpotOn f g p
      by_point (Some q) k r = by_test q k (are_above all q) refl r
      by_point None k r = absurd (none_not_some p r)

  -- a point of the section where two sides meet is found
  spot_found : (f g : Side) (q : RationalPoint) → Listed f all → Listed g all → trace_meeting z f.edge g.edge ≡ Some q → IsSpot z ts q → Has (spot_at (level_plane z) all f g)
  unfolding meeting_point
  spot_found f g q lf lg m k =
      let r = mapped_has reduced_point (positive_point c) q (reduced_positive c ∙ meeting_same f g lf lg ∙ m) in
      let h = positive_weight c r.value r.is in
      let same = same_some (reduced_point r.value) q (sym (ap (option_map reduced_point) r.is) ∙ reduced_positive c ∙ meeting_same f g lf lg ∙ m) in
      let a = above_reduced r.value h ∙ ap (are_above all) same ∙ weak_above q k.height k.weak in
      record {
        value = r.value;
        is = ap (if_above all) r.is ∙ (λ i. elim (a i) [ true ↦ Some r.value | false ↦ None ]);
      }
    where
      c : RationalPoint
      c = cramer_point f.half g.half (level_plane z)

  -- a side is 0 at a point of the height where its edge is
  zero_same : (g : Side) (p : RationalPoint) → Listed g all → IsPoint p → IsAtHeight z (reduced_point p) → is_zero (side_value g.half p) ≡ is_zero (trace_value g.edge (reduced_point p))
  zero_same g p lg h hz =
      let k = side_in z (with_sides cell) g lg in
      let t = trace_at-is z g.half (direction_of g.half k.has) in
      let s = side_of_trace z g.half (trace_at z g.half) (reduced_point p) hz t in
      (same_sign_reduced g.half p h).zero
      ∙ same_test (is_zero (side_value g.half (reduced_point p))) (is_zero (trace_value g.edge (reduced_point p)))
      (λ e. is_zero_true _ (subst (λ (u : Trace). trace_value u (reduced_point p) ≡ pos 0) (sym k.edge) (cancel_mul_left_ℤ t.factor (trace_value (trace_at z g.half) (reduced_point p)) (pos 0) t.positive (sym s ∙ zero_is _ e ∙ sym (times_zero t.factor)))))
      (λ e. is_zero_true _ (s ∙ ap (λ (v : ℤ). t.factor *ℤ v) (subst (λ (u : Trace). trace_value u (reduced_point p) ≡ pos 0) k.edge (zero_is _ e)) ∙ times_zero t.factor))
    where
      times_zero : (k : ℤ) → k *ℤ pos 0 ≡ pos 0
      times_zero k = by_ring_at (k ∷ []) (search reify depth 40 fits 100000) tt

  -- ---- a side that bounds the section is an edge
  -- the edge of a side is a trace of the list
  edge_listed : (f : Side) → Listed f all → Listed f.edge ts
  edge_listed f lf = let k = side_in z (with_sides cell) f lf in subst (λ (u : Trace). Listed u ts) (sym k.edge) (trace_listed z (with_sides cell) f.half k.listed k.has)

  -- where it has two such points its trace is an edge of the ring
  bound_edge : (f : Side) → Listed f all → is_bound (level_plane z) all f ≡ true → HasEdge steps f.edge
  bound_edge f lf e = by_first (first_of (spot_at (level_plane z) all f) all) refl e
    where
      two : (p : RationalPoint) (one : GivenAt (spot_at (level_plane z) all f) all p) → SomePasses (is_other (level_plane z) all f p) all → HasEdge steps f.edge
      two p one other =
          let a = spot_is f one.item p lf one.listed one.is in
          let off = and_first (not (is_zero (side_value other.item.half p))) _ other.passes in
          let q = some_has (spot_at (level_plane z) all f other.item) (and_second (not (is_zero (side_value other.item.half p))) _ other.passes) in
          let b = spot_is f other.item q.value lf other.listed q.is in
          edge_at_two z (with_sides cell) steps ring f.edge (edge_listed f lf) (reduced_point p) (reduced_point q.value) a.spot b.spot a.on_first b.on_first
          (λ same. not_passes (is_zero (side_value other.item.half p)) off
          (zero_same other.item p other.listed a.point a.spot.height ∙ is_zero_true _ (subst (λ (r : RationalPoint). trace_value other.item.edge r ≡ pos 0) (sym same) b.on_second)))

      by_first : (o : Option RationalPoint) → first_of (spot_at (level_plane z) all f) all ≡ o → has_other (level_plane z) all f o ≡ true → HasEdge steps f.edge
      by_first None k r = absurd (false_not_true false r refl)
      by_first (Some p) k r = two p (first_given (spot_at (level_plane z) all f) all p k) (some_passes (is_other (level_plane z) all f p) all r)

  -- ---- an edge bounds the section
  -- the side of an edge of the ring
  record SideOf (s : RingStep) : Type 0 where
    side : Side
    listed : Listed side all
    same : side.edge ≡ s.edge

  -- each step has one
  side_of_step : (s : RingStep) → Listed s steps → SideOf s
  side_of_step s l =
      let c = trace_from z (with_sides cell) s.edge (ring.each s l).edge in
      record { side = side_of z c.of; listed = side_listed z (with_sides cell) c.of c.listed c.has; same = sym c.same }

  -- a side whose edge is one of the ring has two points
  edge_bound : (f : Side) → Listed f all → HasEdge steps f.edge → is_bound (level_plane z) all f ≡ true
  edge_bound f lf h =
      let s = h.step in
      let b = backward steps s h.listed in
      let o = onward steps s h.listed in
      let jb = joins steps (turn_of b.from s) b.listed in
      let jo = joins steps (turn_of s o.to) o.listed in
      let tb = ring.turns (turn_of b.from s) b.listed in
      let to = ring.turns (turn_of s o.to) o.listed in
      let g = side_of_step b.from jb.step in
      let k = side_of_step o.to jo.next in
      let e1 = end_spot z ts b.from (ring.each b.from jb.step) in
      let e2 = end_spot z ts s (ring.each s h.listed) in
      let m1 = meeting_is z f.edge g.side.edge b.from.end e1.lowest e1.height (zero_at s.edge f.edge b.from.end h.same tb.on_next) (zero_at b.from.edge g.side.edge b.from.end (sym g.same) tb.on_edge) (crossed_back b.from.edge s.edge g.side.edge f.edge g.same h.same tb.left) in
      let m2 = meeting_is z f.edge k.side.edge s.end e2.lowest e2.height (zero_at s.edge f.edge s.end h.same to.on_edge) (zero_at o.to.edge k.side.edge s.end (sym k.same) to.on_next) (crossed_on s.edge o.to.edge f.edge k.side.edge h.same k.same to.left) in
      let s1 = spot_found f g.side b.from.end lf g.listed m1 e1 in
      let s2 = spot_found f k.side s.end lf k.listed m2 e2 in
      let p = first_has (spot_at (level_plane z) all f) all g.side s1.value g.listed s1.is in
      let at = first_given (spot_at (level_plane z) all f) all p.value p.is in
      let a = spot_is f at.item p.value lf at.listed at.is in
      ap (has_other (level_plane z) all f) p.is ∙ some_other p.value a g.side k.side g.listed k.listed s1 s2 b.from.end s.end m1 m2 tb.apart
    where
      zero_at : (s t : Trace) (q : RationalPoint) → s ≡ t → trace_value s q ≡ pos 0 → trace_value t q ≡ pos 0
      zero_at s t q e k = subst (λ (u : Trace). trace_value u q ≡ pos 0) e k

      positive_not_zero : (c : ℤ) → pos 0 <ℤ c → c ≡ pos 0 → ⊥
      positive_not_zero c h e = omega (arith, linear, h, e)

      crossed_on : (s t u v : Trace) → s ≡ u → v ≡ t → pos 0 <ℤ cross s t → cross u v ≡ pos 0 → ⊥
      crossed_on s t u v es et h e = positive_not_zero (cross s t) h ((λ i. cross (es i) (sym et i)) ∙ e)

      crossed_back : (t s v u : Trace) → v ≡ t → s ≡ u → pos 0 <ℤ cross t s → cross u v ≡ pos 0 → ⊥
      crossed_back t s v u et es h e = positive_not_zero (cross t s) h (cross_turned s t ∙ ap neg_ℤ ((λ i. cross (es i) (sym et i)) ∙ e))

      some_other : (p : RationalPoint) {at : Side} → IsSpotOn f at p → (g k : Side) → Listed g all → Listed k all → Has (spot_at (level_plane z) all f g) → Has (spot_at (level_plane z) all f k) → (one two : RationalPoint)
          → trace_meeting z f.edge g.edge ≡ Some one → trace_meeting z f.edge k.edge ≡ Some two → (one ≡ two → ⊥) → list_any (is_other (level_plane z) all f p) all ≡ true
      some_other p a g k lg lk sg sk one two mg mk apart =
          ⊎_elim
          (λ (n : trace_value g.edge (reduced_point p) ≡ pos 0). ⊎_elim
          (λ (m : trace_value k.edge (reduced_point p) ≡ pos 0). absurd (apart (sym (same_place g one mg n) ∙ same_place k two mk m)))
          (λ m. passes k lk sk m)
          (zero_or_not (trace_value k.edge (reduced_point p))))
          (λ n. passes g lg sg n)
          (zero_or_not (trace_value g.edge (reduced_point p)))
        where
          same_place : (s : Side) (q : RationalPoint) → trace_meeting z f.edge s.edge ≡ Some q → trace_value s.edge (reduced_point p) ≡ pos 0 → reduced_point p ≡ q
          same_place s q m n = same_some (reduced_point p) q (sym (meeting_is z f.edge s.edge (reduced_point p) a.spot.lowest a.spot.height a.on_first n (not_parallel s q m)) ∙ m)
            where
              not_parallel : (s : Side) (q : RationalPoint) → trace_meeting z f.edge s.edge ≡ Some q → cross f.edge s.edge ≡ pos 0 → ⊥
              not_parallel s q m e = none_not_some q (sym (parallel_none z f.edge s.edge e) ∙ m)

          passes : (s : Side) → Listed s all → Has (spot_at (level_plane z) all f s) → (trace_value s.edge (reduced_point p) ≡ pos 0 → ⊥) → list_any (is_other (level_plane z) all f p) all ≡ true
          passes s ls has n =
              passes_some (is_other (level_plane z) all f p) all s ls
              (and_true _ _ (ap not (zero_same s p ls a.point a.spot.height ∙ is_zero_false _ n)) (ap is_some has.is))

  -- so the sides that bound the section are those whose traces are edges
  pub bound_is_edge : (f : Side) → Listed f all → is_bound (level_plane z) all f ≡ is_edge_of (corners z ts) f.edge
  bound_is_edge f lf =
      same_test (is_bound (level_plane z) all f) (is_edge_of (corners z ts) f.edge)
      (λ e. let h = bound_edge f lf e in subst (λ (u : Trace). is_edge_of (corners z ts) u ≡ true) h.same (is_edge z cell steps ring h.step h.listed))
      (λ e. edge_bound f lf (edge_is z cell steps ring f.edge (edge_listed f lf) e))

  -- ---- the sides that bound the section, by their angles
  -- a side set in
  insert_edges : (s : Side) (sides : List Side) → edges_on (insert_side s sides) ≡ insert_edge s.edge (edges_on sides)
  insert_edges s [] = refl
  insert_edges s (t ∷ sides) = by_test (is_angle_before s.edge t.edge) (is_angle_before t.edge s.edge) (insert_edges s sides)
    where
      by_test : (b c : Bool) → edges_on (insert_side s sides) ≡ insert_edge s.edge (edges_on sides)
          → edges_on (elim b [ true ↦ s ∷ t ∷ sides | false ↦ elim c [ true ↦ t ∷ insert_side s sides | false ↦ t ∷ sides ] ])
          ≡ elim b [ true ↦ s.edge ∷ t.edge ∷ edges_on sides | false ↦ elim c [ true ↦ t.edge ∷ insert_edge s.edge (edges_on sides) | false ↦ t.edge ∷ edges_on sides ] ]
      by_test true c e = refl
      by_test false true e = ap (λ es. t.edge ∷ es) e
      by_test false false e = refl

  -- their edges are those that are found
  bounds_edges : (sides : List Side) → ((s : Side) → Listed s sides → Listed s all) → edges_on (bounds_of (level_plane z) all sides) ≡ edges_among (corners z ts) (edges_on sides)
  bounds_edges [] sub = refl
  bounds_edges (s ∷ sides) sub =
      (λ i. edges_on (elim (bound_is_edge s (sub s first) i) [ true ↦ insert_side s (bounds_of (level_plane z) all sides) | false ↦ bounds_of (level_plane z) all sides ]))
      ∙ by_test (is_edge_of (corners z ts) s.edge) (bounds_edges sides (λ u l. sub u (later l)))
    where
      by_test : (b : Bool) → edges_on (bounds_of (level_plane z) all sides) ≡ edges_among (corners z ts) (edges_on sides)
          → edges_on (elim b [ true ↦ insert_side s (bounds_of (level_plane z) all sides) | false ↦ bounds_of (level_plane z) all sides ])
          ≡ elim b [ true ↦ insert_edge s.edge (edges_among (corners z ts) (edges_on sides)) | false ↦ edges_among (corners z ts) (edges_on sides) ]
      by_test true e = insert_edges s (bounds_of (level_plane z) all sides) ∙ ap (insert_edge s.edge) e
      by_test false e = e

  -- all of them
  pub bounds_are_edges : edges_on (bounds_of (level_plane z) all all) ≡ edges_among (corners z ts) ts
  bounds_are_edges = bounds_edges all (λ s l. l) ∙ ap (edges_among (corners z ts)) (side_edges z (with_sides cell))

  -- a side that is set in was there, or is the one
  set_in : (s : Side) (sides : List Side) (u : Side) → Listed u (insert_side s sides) → (u ≡ s) ⊎ Listed u sides
  set_in s [] u first = inl refl
  set_in s [] u (later l) = elim l [ ]
  set_in s (t ∷ sides) u l = by_test (set_in s sides u) (is_angle_before s.edge t.edge) (is_angle_before t.edge s.edge) l
    where
      front : (v : Side) (xs : List Side) → Listed u (v ∷ xs) → (u ≡ v) ⊎ Listed u xs
      front v xs first = inl refl
      front v xs (later m) = inr m

      by_test : (Listed u (insert_side s sides) → (u ≡ s) ⊎ Listed u sides) → (b c : Bool)
          → Listed u (elim b [ true ↦ s ∷ t ∷ sides | false ↦ elim c [ true ↦ t ∷ insert_side s sides | false ↦ t ∷ sides ] ]) → (u ≡ s) ⊎ Listed u (t ∷ sides)
      by_test rest true c m = front s (t ∷ sides) m
      by_test rest false true m = ⊎_elim (λ e. inr (subst (λ (x : Side). Listed x (t ∷ sides)) (sym e) first)) (λ k. ⊎_elim inl (λ i. inr (later i)) (rest k)) (front t (insert_side s sides) m)
      by_test rest false false m = inr m

  -- the sides that bound the section are sides
  pub bounds_listed : (sides : List Side) → ((s : Side) → Listed s sides → Listed s all) → (u : Side) → Listed u (bounds_of (level_plane z) all sides) → Listed u all
  bounds_listed [] sub u l = elim l [ ]
  bounds_listed (s ∷ sides) sub u l = by_test (bounds_listed sides (λ v k. sub v (later k)) u) (is_bound (level_plane z) all s) l
    where
      by_test : (Listed u (bounds_of (level_plane z) all sides) → Listed u all) → (b : Bool)
          → Listed u (elim b [ true ↦ insert_side s (bounds_of (level_plane z) all sides) | false ↦ bounds_of (level_plane z) all sides ]) → Listed u all
      by_test rest true m = ⊎_elim (λ e. subst (λ (x : Side). Listed x all) (sym e) (sub s first)) rest (set_in s (bounds_of (level_plane z) all sides) u m)
      by_test rest false m = rest m
