-- A walk from side to side, as long as the angles rise; and a ring, from where one walk ends to where the next one ends.
use Rattle.std.proofs.Common.{◌≡◌, ℕ, zero, suc, ◌<◌, ◌≤◌, ℤ, pos, neg_ℤ, ◌-ℤ◌, ◌*ℤ◌, ◌<ℤ◌, Bool, true, false, List, [], ◌∷◌, length, ⊎_elim, refl, sym, ap, ◌∙◌, subst, arith}
use Rattle.std.specs.Prelude.{nat_le}
use Rattle.std.proofs.lemmas.Bool.{le-leb}
use Rattle.rp_algebra.proofs.IntLaws.{linear, trichotomy_ℤ, cancel_mul_left_ℤ, mul_pos_ℤ}
use Rattle.rp_algebra.proofs.Reify.{by_ring_at, reify}
use Rattle.rp_algebra.proofs.Tests.{and_true, is_positive_true, false_not_true}
use Rattle.rp_algebra.proofs.Listed.{Listed, first, later}
use Rattle.rp_algebra.proofs.Numbers.{at_most_itself}
use Rattle.rp_geometry.specs.Geometry.{RationalPoint, HalfSpace}
use Rattle.rp_geometry.specs.laws.SectionLaws.{MemberHasRing}
use Rattle.rp_geometry.specs.sections.Trace.{Trace, trace_value, with_sides}
use Rattle.rp_geometry.specs.sections.Ring.{RingStep, Turn, turn_of, turns_to, turns_of, cross, is_upper, is_before_by, is_angle_before, angles_rise}
use Rattle.rp_slice.proofs.Traces.{IsDirection, traces, trace_in}
use Rattle.rp_slice.proofs.Rings.{IsStep, IsTurn, IsRingOf, ring_from}
use Rattle.rp_slice.proofs.Owned.{IsFirst}
use Rattle.rp_slice.proofs.Angles.{upper_to, lower_to, half_chain, before_chain, not_before_itself}
use Rattle.rp_slice.proofs.Center.{IsWithinAll}
use Rattle.rp_slice.proofs.FlatFound.{member_is_open}
use Rattle.rp_slice.proofs.Spots.{ahead_own, ahead_rises, cross_turned}
use Rattle.rp_slice.proofs.Sides.{Side, Advance, some_side, next_side, none_between, same_direction}

-- ---- how many traces have a greater angle

-- one more, or not
abbrev pub count_by : Bool → ℕ → ℕ
count_by true n = suc n
count_by false n = n

-- the number of traces of a list before which e is
abbrev pub count : Trace → List Trace → ℕ
count e [] = 0
count e (t ∷ ts) = count_by (is_angle_before e t) (count e ts)

-- the traces have directions
abbrev pub AllDirections : List Trace → Type 0
AllDirections ts = (t : Trace) → Listed t ts → IsDirection t.a t.b

module _ (e f : Trace) (ne : IsDirection e.a e.b) (nf : IsDirection f.a f.b) (b : is_angle_before e f ≡ true) where
  -- one more for f is one more for e
  count_step : (t : Trace) → IsDirection t.a t.b → (x y : Bool) → is_angle_before f t ≡ x → is_angle_before e t ≡ y → (m n : ℕ) → m ≤ n → count_by x m ≤ count_by y n
  count_step t nt true true ex ey m n h = omega (arith, h)
  count_step t nt true false ex ey m n h = absurd (false_not_true (is_angle_before e t) (before_chain e f t ne nf nt b ex) ey)
  count_step t nt false true ex ey m n h = omega (arith, h)
  count_step t nt false false ex ey m n h = h

  -- what f is before e is before
  count_least : (ts : List Trace) → AllDirections ts → count f ts ≤ count e ts
  count_least [] d = omega arith
  count_least (t ∷ ts) d = count_step t (d t first) (is_angle_before f t) (is_angle_before e t) refl refl (count f ts) (count e ts) (count_least ts (λ u l. d u (later l)))

  -- and f itself
  count_own : (x y : Bool) → is_angle_before f f ≡ x → is_angle_before e f ≡ y → (m n : ℕ) → m ≤ n → count_by x m < count_by y n
  count_own true y ex ey m n h = absurd (not_before_itself f ex)
  count_own false true ex ey m n h = omega (arith, h)
  count_own false false ex ey m n h = absurd (false_not_true (is_angle_before e f) b ey)

  -- one more for e alone
  count_more : (t : Trace) → IsDirection t.a t.b → (x y : Bool) → is_angle_before f t ≡ x → is_angle_before e t ≡ y → (m n : ℕ) → m < n → count_by x m < count_by y n
  count_more t nt true true ex ey m n h = omega (arith, h)
  count_more t nt true false ex ey m n h = absurd (false_not_true (is_angle_before e t) (before_chain e f t ne nf nt b ex) ey)
  count_more t nt false true ex ey m n h = omega (arith, h)
  count_more t nt false false ex ey m n h = h

  -- so f is before fewer
  pub count_less : (ts : List Trace) → AllDirections ts → Listed f ts → count f ts < count e ts
  count_less [] d l = elim l [ ]
  count_less (t ∷ ts) d first = count_own (is_angle_before f f) (is_angle_before e f) refl refl (count f ts) (count e ts) (count_least ts (λ u m. d u (later m)))
  count_less (t ∷ ts) d (later l) = count_more t (d t first) (is_angle_before f t) (is_angle_before e t) refl refl (count f ts) (count e ts) (count_less ts (λ u m. d u (later m)) l)

-- ---- walks

-- from a side to the next one, as long as the angle rises
data Walk (z : ℤ) (ts : List Trace) (next : (s : Side z ts) → Advance z ts s.edge s.from) : Side z ts → Type 0 where
  stop : (s : Side z ts) → is_angle_before s.edge (next s).side.edge ≡ false → Walk z ts next s
  go : (s : Side z ts) → is_angle_before s.edge (next s).side.edge ≡ true → Walk z ts next (next s).side → Walk z ts next s

module _ (z : ℤ) (ts : List Trace) (next : (s : Side z ts) → Advance z ts s.edge s.from) where
  -- the step along a side
  abbrev step_of : Side z ts → RingStep
  step_of s = record { edge = s.edge; end = (next s).side.from }

  -- the steps of a walk
  abbrev steps_of : {s : Side z ts} → Walk z ts next s → List RingStep
  steps_of (stop s n) = step_of s ∷ []
  steps_of (go s b w) = step_of s ∷ steps_of w

  -- the last side of a walk
  abbrev last_of : {s : Side z ts} → Walk z ts next s → Side z ts
  last_of (stop s n) = s
  last_of (go s b w) = last_of w

  -- after the last side the angle does not rise
  last_stops : {s : Side z ts} (w : Walk z ts next s) → is_angle_before (last_of w).edge (next (last_of w)).side.edge ≡ false
  last_stops (stop s n) = n
  last_stops (go s b w) = last_stops w

  -- a walk, with room for as many steps as traces are still to come
  walk : AllDirections ts → (n : ℕ) (s : Side z ts) → count s.edge ts ≤ n → Walk z ts next s
  walk d zero s h = by_test (is_angle_before s.edge (next s).side.edge) refl
    where
      by_test : (b : Bool) → is_angle_before s.edge (next s).side.edge ≡ b → Walk z ts next s
      by_test true e = absurd (let l = count_less s.edge (next s).side.edge (d s.edge s.listed) (d (next s).side.edge (next s).side.listed) e ts d (next s).side.listed in omega (arith, l, h))
      by_test false e = stop s e
  walk d (suc n) s h = by_test (λ k. walk d n (next s).side k) (is_angle_before s.edge (next s).side.edge) refl
    where
      by_test : (count (next s).side.edge ts ≤ n → Walk z ts next (next s).side) → (b : Bool) → is_angle_before s.edge (next s).side.edge ≡ b → Walk z ts next s
      by_test rest true e = go s e (rest (let l = count_less s.edge (next s).side.edge (d s.edge s.listed) (d (next s).side.edge (next s).side.listed) e ts d (next s).side.listed in omega (arith, l, h)))
      by_test rest false e = stop s e

  -- the steps of a walk are steps of a ring
  walk_steps : {s : Side z ts} (w : Walk z ts next s) (r : RingStep) → Listed r (steps_of w) → IsStep z ts r
  walk_steps (stop s n) r first = record { edge = s.listed; end = (next s).side.from_spot.lowest; height = (next s).side.from_spot.height; weak = (next s).side.from_spot.weak }
  walk_steps (stop s n) r (later l) = elim l [ ]
  walk_steps (go s b w) r first = record { edge = s.listed; end = (next s).side.from_spot.lowest; height = (next s).side.from_spot.height; weak = (next s).side.from_spot.weak }
  walk_steps (go s b w) r (later l) = walk_steps w r l

  -- their angles rise
  walk_rises : {s : Side z ts} (w : Walk z ts next s) → angles_rise (steps_of w) ≡ true
  walk_rises (stop s n) = refl
  walk_rises (go s b (stop t n)) = and_true _ _ b refl
  walk_rises (go s b (go t c w)) = and_true _ _ b (walk_rises (go t c w))

  -- the ends of two sides that follow each other differ
  ends_differ : (e : Trace) (f : Side z ts) (p : RationalPoint) → Listed e ts → pos 0 <ℤ cross e f.edge → trace_value e p ≡ pos 0 → p ≡ (next f).side.from → ⊥
  ends_differ e f p le c own same =
      let h = ahead_rises e f.edge f.from (next f).side.from (next f).reach (f.from_spot.weak e le) c in
      apart (trace_value e (next f).side.from) h (subst (λ (q : RationalPoint). trace_value e q ≡ pos 0) same own)
    where
      apart : (v : ℤ) → pos 0 <ℤ v → v ≡ pos 0 → ⊥
      apart v h e = omega (arith, linear, h, e)

  -- a side and the next one make a turn
  next_turn : (s : Side z ts) → IsTurn (turn_of (step_of s) (step_of (next s).side))
  next_turn s =
      let zero = ahead_own s.edge s.from (next s).side.from (next s).reach s.on in
      record { on_edge = zero; on_next = (next s).side.on; apart = ends_differ s.edge (next s).side (next s).side.from s.listed (next s).left zero; left = (next s).left }

  -- the turns of a walk that goes on
  turns_go : (head r : RingStep) {s : Side z ts} (w : Walk z ts next s) → turns_to head (r ∷ steps_of w) ≡ turn_of r (step_of s) ∷ turns_to head (steps_of w)
  turns_go head r (stop s n) = refl
  turns_go head r (go s b w) = refl

  -- a turn of a list with one more
  one_turn : (u v : Turn) (us : List Turn) → Listed u (v ∷ us) → IsTurn v → (Listed u us → IsTurn u) → IsTurn u
  one_turn u v us first k rest = k
  one_turn u v us (later l) k rest = rest l

  -- the turns of a walk, where the last one to the head is one
  walk_turns : (head : RingStep) {s : Side z ts} (w : Walk z ts next s) → IsTurn (turn_of (step_of (last_of w)) head) → (u : Turn) → Listed u (turns_to head (steps_of w)) → IsTurn u
  walk_turns head (stop s n) k u l = one_turn u (turn_of (step_of s) head) [] l k (λ m. elim m [ ])
  walk_turns head (go s b w) k u l =
      one_turn u (turn_of (step_of s) (step_of (next s).side)) (turns_to head (steps_of w)) (subst (λ (us : List Turn). Listed u us) (turns_go head (step_of s) w) l) (next_turn s) (λ m. walk_turns head w k u m)

  -- the turns of a walk that begins with a side
  walk_head : {s : Side z ts} (w : Walk z ts next s) → turns_of (steps_of w) ≡ turns_to (step_of s) (steps_of w)
  walk_head (stop s n) = refl
  walk_head (go s b w) = refl

  -- a walk has steps
  walk_some : {s : Side z ts} (w : Walk z ts next s) → steps_of w ≡ [] → ⊥
  walk_some (stop s n) e = cc
  walk_some (go s b w) e = cc

-- ---- three steps

-- no two cross products of the same traces are above 0 both ways
not_two_ways : (e f : Trace) → pos 0 <ℤ cross e f → pos 0 <ℤ cross f e → ⊥
not_two_ways e f h k = let t = cross_turned e f in omega (arith, linear, h, k, t)

-- steps with turns are three or more
three_steps : (steps : List RingStep) → (steps ≡ [] → ⊥) → ((u : Turn) → Listed u (turns_of steps) → IsTurn u) → nat_le 3 (length steps) ≡ true
three_steps [] n k = absurd (n refl)
three_steps (s ∷ []) n k = let h = (k (turn_of s s) first).left in absurd (not_two_ways s.edge s.edge h h)
three_steps (s ∷ t ∷ []) n k = absurd (not_two_ways s.edge t.edge (k (turn_of s t) first).left (k (turn_of t s) (later first)).left)
three_steps (s ∷ t ∷ r ∷ steps) n k = le-leb 3 (suc (suc (suc (length steps)))) (omega arith)

-- ---- where the angles begin again
module _ (z : ℤ) (cell : List HalfSpace) (next : (s : Side z (traces z (with_sides cell))) → Advance z (traces z (with_sides cell)) s.edge s.from) where
  -- the traces of the flat list
  abbrev ts : List Trace
  ts = traces z (with_sides cell)

  -- where the angle does not rise, it goes from the second half turn to the first
  wraps_by : (e f : Trace) → pos 0 <ℤ cross e f → (x y : Bool) → is_before_by x y e f ≡ false → (x ≡ false) × (y ≡ true)
  wraps_by e f c true true n = absurd (false_not_true _ (is_positive_true (cross e f) c) n)
  wraps_by e f c true false n = absurd (false_not_true true refl n)
  wraps_by e f c false true n = (refl, refl)
  wraps_by e f c false false n = absurd (false_not_true _ (is_positive_true (cross e f) c) n)

  -- a side that the last one of a walk turns to, in the first half turn
  pub record Begins (l f : Side z (traces z (with_sides cell))) : Type 0 where
    pub left : pos 0 <ℤ cross l.edge f.edge
    pub lower : is_upper l.edge ≡ false
    pub upper : is_upper f.edge ≡ true
    pub meets : trace_value l.edge f.from ≡ pos 0

  -- so is the one after a walk
  begins : {s : Side z (traces z (with_sides cell))} (w : Walk z (traces z (with_sides cell)) next s) → Begins (last_of z (traces z (with_sides cell)) next w) (next (last_of z (traces z (with_sides cell)) next w)).side
  begins w =
      let l = last_of z (traces z (with_sides cell)) next w in
      let b = wraps_by l.edge (next l).side.edge (next l).left (is_upper l.edge) (is_upper (next l).side.edge) (last_stops z (traces z (with_sides cell)) next w) in
      record { left = (next l).left; lower = b.0; upper = b.1; meets = ahead_own l.edge l.from (next l).side.from (next l).reach l.on }

  -- the cross product with a negative
  cross_negative : (a b c d : ℤ) → a *ℤ neg_ℤ d -ℤ neg_ℤ c *ℤ b ≡ c *ℤ b -ℤ a *ℤ d
  cross_negative a b c d = by_ring_at (a ∷ b ∷ c ∷ d ∷ []) (search reify depth 40 fits 100000) tt

  -- of two such sides the first is not before the second
  not_before : (l g f : Side z (traces z (with_sides cell))) → Begins l f → is_upper g.edge ≡ true → pos 0 <ℤ cross g.edge f.edge → ⊥
  not_before l g f b ug gf =
      none_between z cell l.edge f.edge f.from l.listed f.listed f.from_spot b.meets f.on b.left g
      (subst (λ (x : ℤ). pos 0 <ℤ x) (cross_negative g.edge.a g.edge.b l.edge.a l.edge.b)
      (half_chain g.edge.a g.edge.b f.edge.a f.edge.b (neg_ℤ l.edge.a) (neg_ℤ l.edge.b)
      (upper_to g.edge ug) (upper_to f.edge b.upper) (lower_to l.edge (trace_in z (with_sides cell) l.edge l.listed).direction b.lower)
      gf
      (subst (λ (x : ℤ). pos 0 <ℤ x) (sym (cross_negative f.edge.a f.edge.b l.edge.a l.edge.b)) b.left)))
      gf

  -- two parallel directions in the first half turn are proportional
  proportional : (f g : Side z (traces z (with_sides cell))) → IsFirst f.edge.b f.edge.a → IsFirst g.edge.b g.edge.a → cross f.edge g.edge ≡ pos 0 → f.edge ≡ g.edge
  proportional f g hf hg c =
      ⊎_elim
      (λ (low : f.edge.b <ℤ pos 0). absurd (let h = hf.least in omega (arith, linear, low, h)))
      (λ r. ⊎_elim
      (λ (zf : f.edge.b ≡ pos 0).
      let zg = other_zero f.edge.a f.edge.b g.edge.a g.edge.b (hf.then zf) zf c in
      same_direction z cell f g g.edge.a f.edge.a (hg.then zg) (hf.then zf) (swapped g.edge.a f.edge.a) (both_zero g.edge.a f.edge.a f.edge.b g.edge.b zf zg))
      (λ (high : pos 0 <ℤ f.edge.b). same_direction z cell f g g.edge.b f.edge.b (other_above f.edge.a f.edge.b g.edge.a g.edge.b high hg c) high (crossed f.edge.a f.edge.b g.edge.a g.edge.b c) (swapped g.edge.b f.edge.b)) r)
      (trichotomy_ℤ f.edge.b (pos 0))
    where
      swapped : (a b : ℤ) → a *ℤ b ≡ b *ℤ a
      swapped a b = by_ring_at (a ∷ b ∷ []) (search reify depth 40 fits 100000) tt

      times_zero : (a : ℤ) → a *ℤ pos 0 ≡ pos 0
      times_zero a = by_ring_at (a ∷ []) (search reify depth 40 fits 100000) tt

      both_zero : (m n a b : ℤ) → a ≡ pos 0 → b ≡ pos 0 → m *ℤ a ≡ n *ℤ b
      both_zero m n a b za zb = ap (λ (x : ℤ). m *ℤ x) za ∙ times_zero m ∙ sym (times_zero n) ∙ ap (λ (x : ℤ). n *ℤ x) (sym zb)

      crossed : (fa fb ga gb : ℤ) → fa *ℤ gb -ℤ ga *ℤ fb ≡ pos 0 → gb *ℤ fa ≡ fb *ℤ ga
      crossed fa fb ga gb e = swapped gb fa ∙ equal (fa *ℤ gb) (ga *ℤ fb) e ∙ swapped ga fb
        where
          equal : (x y : ℤ) → x -ℤ y ≡ pos 0 → x ≡ y
          equal x y e = omega (arith, linear, e)

      other_zero : (fa fb ga gb : ℤ) → pos 0 <ℤ fa → fb ≡ pos 0 → fa *ℤ gb -ℤ ga *ℤ fb ≡ pos 0 → gb ≡ pos 0
      other_zero fa fb ga gb h z e =
          cancel_mul_left_ℤ fa gb (pos 0) h
          (by_ring_at (fa ∷ gb ∷ ga ∷ []) {y = fa *ℤ gb -ℤ ga *ℤ pos 0} (search reify depth 40 fits 100000) tt ∙ (λ i. fa *ℤ gb -ℤ ga *ℤ sym z i) ∙ e ∙ sym (times_zero fa))

      other_above : (fa fb ga gb : ℤ) → pos 0 <ℤ fb → IsFirst gb ga → fa *ℤ gb -ℤ ga *ℤ fb ≡ pos 0 → pos 0 <ℤ gb
      other_above fa fb ga gb h k e =
          ⊎_elim
          (λ (l : gb <ℤ pos 0). absurd (let m = k.least in omega (arith, linear, l, m)))
          (λ r. ⊎_elim
          (λ (zg : gb ≡ pos 0). absurd (let m = k.then zg in not_zero ga fb m h (by_ring_at (ga ∷ fb ∷ fa ∷ []) {y = fa *ℤ pos 0 -ℤ (fa *ℤ pos 0 -ℤ ga *ℤ fb)} (search reify depth 40 fits 100000) tt ∙ (λ i. fa *ℤ pos 0 -ℤ (fa *ℤ sym zg i -ℤ ga *ℤ fb)) ∙ (λ i. fa *ℤ pos 0 -ℤ e i) ∙ by_ring_at (fa ∷ []) (search reify depth 40 fits 100000) tt)))
          (λ g. g) r)
          (trichotomy_ℤ gb (pos 0))
        where
          not_zero : (a b : ℤ) → pos 0 <ℤ a → pos 0 <ℤ b → a *ℤ b ≡ pos 0 → ⊥
          not_zero a b ha hb e = let n = mul_pos_ℤ a b ha hb in omega (arith, linear, n, e)

  -- two such sides have one trace
  begins_same : (l f m g : Side z (traces z (with_sides cell))) → Begins l f → Begins m g → f.edge ≡ g.edge
  begins_same l f m g b c =
      ⊎_elim
      (λ (low : cross f.edge g.edge <ℤ pos 0). absurd (not_before l g f b c.upper (above (cross f.edge g.edge) (cross g.edge f.edge) (cross_turned f.edge g.edge) low)))
      (λ r. ⊎_elim
      (λ zero. proportional f g (upper_to f.edge b.upper) (upper_to g.edge c.upper) zero)
      (λ high. absurd (not_before m f g c b.upper high)) r)
      (trichotomy_ℤ (cross f.edge g.edge) (pos 0))
    where
      above : (c d : ℤ) → d ≡ neg_ℤ c → c <ℤ pos 0 → pos 0 <ℤ d
      above c d e h = omega (arith, linear, e, h)

  -- ---- the ring
  -- the turn from the last side of a walk to its first one, where the walk begins again
  closing : (l f g : Side z (traces z (with_sides cell))) → (next l).side ≡ g → Begins l g → f.edge ≡ g.edge → IsTurn (turn_of (step_of z (traces z (with_sides cell)) next l) (step_of z (traces z (with_sides cell)) next f))
  closing l f g same b e =
      let zero = ahead_own l.edge l.from (next l).side.from (next l).reach l.on in
      let left = subst (λ (t : Trace). pos 0 <ℤ cross l.edge t) (sym e) b.left in
      record {
        on_edge = zero;
        on_next = subst (λ (t : Trace). trace_value t (next l).side.from ≡ pos 0) (sym e) (subst (λ (h : Side z (traces z (with_sides cell))). trace_value h.edge (next l).side.from ≡ pos 0) same (next l).side.on);
        apart = ends_differ z (traces z (with_sides cell)) next l.edge f (next l).side.from l.listed left zero;
        left = left;
      }

  -- the ring of a walk from a side that begins the angles
  ring_of_walk : (l f : Side z (traces z (with_sides cell))) → Begins l f → (w : Walk z (traces z (with_sides cell)) next f) → IsRingOf z (traces z (with_sides cell)) (steps_of z (traces z (with_sides cell)) next w)
  ring_of_walk l f b w =
      let all = traces z (with_sides cell) in
      let m = last_of z all next w in
      let g = (next m).side in
      let c = begins w in
      let same = begins_same l f m g b c in
      let turns : (u : Turn) → Listed u (turns_of (steps_of z all next w)) → IsTurn u =
      λ u i. walk_turns z all next (step_of z all next f) w (closing m f g refl c same) u (subst (λ (us : List Turn). Listed u us) (walk_head z all next w) i) in
      record {
        many = three_steps (steps_of z all next w) (walk_some z all next w) turns;
        each = walk_steps z all next w;
        turns = turns;
        rising = walk_rises z all next w;
      }

-- the traces of the flat list have directions
pub all_directions : (z : ℤ) (hs : List HalfSpace) → AllDirections (traces z hs)
all_directions z hs t l = (trace_in z hs t l).direction

-- a section with a point inside has a ring
pub ring_of_open : (z : ℤ) (cell : List HalfSpace) (c : RationalPoint) → IsWithinAll z (traces z (with_sides cell)) c → (steps : List RingStep) × IsRingOf z (traces z (with_sides cell)) steps
ring_of_open z cell c within =
    let all = traces z (with_sides cell) in
    let next = next_side z cell c within in
    let d = all_directions z (with_sides cell) in
    let s = some_side z cell c within in
    let w = walk z all next d (count s.edge all) s (at_most_itself (count s.edge all)) in
    let l = last_of z all next w in
    let f = (next l).side in
    let v = walk z all next d (count f.edge all) f (at_most_itself (count f.edge all)) in
    (steps_of z all next v, ring_of_walk z cell next l f (begins z cell next w) v)

-- the law
pub member_has_ring_spec : MemberHasRing
member_has_ring_spec z cell hz k m =
    let o = member_is_open z cell hz k m in
    let r = ring_of_open z cell o.at o.within in
    (r.0, ring_from z cell r.0 r.1 o.levels)
