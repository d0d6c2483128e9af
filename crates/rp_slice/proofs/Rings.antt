-- What the test of a ring says, as facts over the traces of the flat list.
use Rattle.std.proofs.Common.{◌≡◌, ℤ, pos, ◌*ℤ◌, ◌≤ℤ◌, ◌<ℤ◌, Bool, true, false, ◌||◌, not, List, length, refl, sym, ap, ◌∙◌, subst}
use Rattle.std.specs.Prelude.{nat_le}
use Rattle.std.specs.List.{list_all}
use Rattle.std.proofs.lemmas.Bool.Decides.{Decides-int_eq}
use Rattle.rp_algebra.specs.Integer.{is_zero, is_positive}
use Rattle.rp_algebra.proofs.Tests.{and_first, and_second, and_true, zero_is, positive_is, is_positive_true, is_zero_true, false_not_true, false_unless}
use Rattle.rp_algebra.proofs.Listed.{Listed, all_pass, pass_all}
use Rattle.rp_geometry.specs.Geometry.{RationalPoint, HalfSpace, IsPoint, SamePlace, reduced_point, point_eq}
use Rattle.rp_geometry.specs.sections.Trace.{IsAtHeight, Trace, has_trace, holds_level, trace_value, with_sides, is_at_height}
use Rattle.rp_geometry.specs.sections.Ring.{RingStep, Turn, turns_of, cross, is_lowest_point, is_trace_of, all_traces_hold, is_step, is_turn, all_levels_hold, is_ring, angles_rise}
use Rattle.rp_geometry.proofs.Points.{point_eq-to, point_eq-same}
use Rattle.rp_convex.proofs.LowestOne.{lowest_terms_are_one_spec}
use Rattle.rp_slice.proofs.Traces.{traces, is_trace_of-to, is_trace_of-from, all_traces_hold-to, all_traces_hold-from}
use Rattle.rp_slice.proofs.Turns.{onward}

-- ---- points

-- a point in lowest terms
pub record IsLowestPoint (p : RationalPoint) : Type 0 where
  pub point : IsPoint p
  pub lowest : reduced_point p ≡ p

-- a point that passes the test is one
pub lowest_to : (p : RationalPoint) → is_lowest_point p ≡ true → IsLowestPoint p
lowest_to p e = record { point = positive_is p.w (and_first (is_positive p.w) _ e); lowest = point_eq-to (reduced_point p) p (and_second (is_positive p.w) _ e) }

-- one passes the test
pub lowest_from : (p : RationalPoint) → IsLowestPoint p → is_lowest_point p ≡ true
lowest_from p k = and_true _ _ (is_positive_true p.w k.point) (subst (λ q. point_eq q p ≡ true) (sym k.lowest) (point_eq-same p))

-- points of one place in lowest terms are one
pub same_lowest : (p q : RationalPoint) → IsLowestPoint p → IsLowestPoint q → SamePlace p q → p ≡ q
same_lowest p q hp hq s = sym hp.lowest ∙ lowest_terms_are_one_spec p q hp.point hq.point s ∙ hq.lowest

-- ---- steps and turns

-- the facts of a step
pub record IsStep (z : ℤ) (ts : List Trace) (s : RingStep) : Type 0 where
  pub edge : Listed s.edge ts
  pub end : IsLowestPoint s.end
  pub height : IsAtHeight z s.end
  pub weak : (t : Trace) → Listed t ts → pos 0 ≤ℤ trace_value t s.end

-- a step that passes the test has them
step_to : (z : ℤ) (hs : List HalfSpace) (s : RingStep) → is_step z hs s ≡ true → IsStep z (traces z hs) s
step_to z hs s e =
    let abc = and_first _ (all_traces_hold z hs s.end) e in
    let ab = and_first _ (is_at_height z s.end) abc in
    record {
      edge = is_trace_of-to z hs s.edge (and_first (is_trace_of z hs s.edge) _ ab);
      end = lowest_to s.end (and_second (is_trace_of z hs s.edge) _ ab);
      height = (Decides-int_eq s.end.z (z *ℤ s.end.w)).0 (and_second _ (is_at_height z s.end) abc);
      weak = all_traces_hold-to z hs s.end (and_second _ (all_traces_hold z hs s.end) e);
    }

-- a step with them passes the test
step_from : (z : ℤ) (hs : List HalfSpace) (s : RingStep) → IsStep z (traces z hs) s → is_step z hs s ≡ true
step_from z hs s k =
    and_true _ (all_traces_hold z hs s.end)
    (and_true _ (is_at_height z s.end)
    (and_true (is_trace_of z hs s.edge) _ (is_trace_of-from z hs s.edge k.edge) (lowest_from s.end k.end))
    ((Decides-int_eq s.end.z (z *ℤ s.end.w)).1 k.height))
    (all_traces_hold-from z hs s.end k.weak)

-- the facts of a turn
pub record IsTurn (u : Turn) : Type 0 where
  pub on_edge : trace_value u.step.edge u.step.end ≡ pos 0
  pub on_next : trace_value u.next.edge u.step.end ≡ pos 0
  pub apart : u.step.end ≡ u.next.end → ⊥
  pub left : pos 0 <ℤ cross u.step.edge u.next.edge

-- a turn that passes the test has them
turn_to : (u : Turn) → is_turn u ≡ true → IsTurn u
turn_to u e =
    let abc = and_first _ (is_positive (cross u.step.edge u.next.edge)) e in
    let ab = and_first _ (not (point_eq u.step.end u.next.end)) abc in
    record {
      on_edge = zero_is _ (and_first (is_zero (trace_value u.step.edge u.step.end)) _ ab);
      on_next = zero_is _ (and_second (is_zero (trace_value u.step.edge u.step.end)) _ ab);
      apart = λ s. other (point_eq u.step.end u.next.end) (and_second _ (not (point_eq u.step.end u.next.end)) abc) (subst (λ q. point_eq u.step.end q ≡ true) s (point_eq-same u.step.end));
      left = positive_is _ (and_second _ (is_positive (cross u.step.edge u.next.edge)) e);
    }
  where
    other : (b : Bool) → not b ≡ true → b ≡ true → ⊥
    other true e f = false_not_true false e refl
    other false e f = false_not_true false f refl

-- a turn with them passes the test
turn_from : (u : Turn) → IsTurn u → is_turn u ≡ true
turn_from u k =
    and_true _ (is_positive (cross u.step.edge u.next.edge))
    (and_true _ (not (point_eq u.step.end u.next.end))
    (and_true _ _ (is_zero_true _ k.on_edge) (is_zero_true _ k.on_next))
    (ap not (false_unless (point_eq u.step.end u.next.end) (λ e. k.apart (point_eq-to u.step.end u.next.end e)))))
    (is_positive_true _ k.left)

-- ---- rings

-- the facts of a ring, over the traces of the list
pub record IsRingOf (z : ℤ) (ts : List Trace) (steps : List RingStep) : Type 0 where
  pub many : nat_le 3 (length steps) ≡ true
  pub each : (s : RingStep) → Listed s steps → IsStep z ts s
  pub turns : (u : Turn) → Listed u (turns_of steps) → IsTurn u
  pub rising : angles_rise steps ≡ true

-- the half-spaces without a trace hold the points at the height
abbrev pub LevelsHold : ℤ → List HalfSpace → Type 0
LevelsHold z hs = (h : HalfSpace) → Listed h hs → has_trace h ≡ false → holds_level z h ≡ true

-- a ring that passes the test has the facts
pub ring_to : (z : ℤ) (cell : List HalfSpace) (steps : List RingStep) → is_ring z cell steps ≡ true → IsRingOf z (traces z (with_sides cell)) steps
ring_to z cell steps e =
    let abcd = and_first _ (all_levels_hold z (with_sides cell)) e in
    let abc = and_first _ (angles_rise steps) abcd in
    let ab = and_first _ (list_all is_turn (turns_of steps)) abc in
    record {
      many = and_first (nat_le 3 (length steps)) _ ab;
      each = λ s l. step_to z (with_sides cell) s (all_pass (is_step z (with_sides cell)) steps (and_second (nat_le 3 (length steps)) _ ab) s l);
      turns = λ u l. turn_to u (all_pass is_turn (turns_of steps) (and_second _ (list_all is_turn (turns_of steps)) abc) u l);
      rising = and_second _ (angles_rise steps) abcd;
    }

-- and the half-spaces without a trace hold the points
pub levels_to : (z : ℤ) (cell : List HalfSpace) (steps : List RingStep) → is_ring z cell steps ≡ true → LevelsHold z (with_sides cell)
levels_to z cell steps e h l n =
    or_holds (has_trace h) (holds_level z h) n (all_pass (λ h. has_trace h || holds_level z h) (with_sides cell) (and_second _ (all_levels_hold z (with_sides cell)) e) h l)
  where
    or_holds : (a b : Bool) → a ≡ false → (a || b) ≡ true → b ≡ true
    or_holds true b n e = absurd (false_not_true true refl n)
    or_holds false b n e = e

-- a ring with the facts passes the test
pub ring_from : (z : ℤ) (cell : List HalfSpace) (steps : List RingStep) → IsRingOf z (traces z (with_sides cell)) steps → LevelsHold z (with_sides cell) → is_ring z cell steps ≡ true
ring_from z cell steps k levels =
    and_true _ (all_levels_hold z (with_sides cell))
    (and_true _ (angles_rise steps)
    (and_true _ (list_all is_turn (turns_of steps))
    (and_true (nat_le 3 (length steps)) _ k.many (pass_all (is_step z (with_sides cell)) steps (λ s l. step_from z (with_sides cell) s (k.each s l))))
    (pass_all is_turn (turns_of steps) (λ u l. turn_from u (k.turns u l))))
    k.rising)
    (pass_all (λ h. has_trace h || holds_level z h) (with_sides cell) (λ h l. or_true h l (has_trace h) refl))
  where
    or_true : (h : HalfSpace) → Listed h (with_sides cell) → (b : Bool) → has_trace h ≡ b → (b || holds_level z h) ≡ true
    or_true h l true e = refl
    or_true h l false e = levels h l e

-- each end is on its edge
pub on_edge : (z : ℤ) (ts : List Trace) (steps : List RingStep) → IsRingOf z ts steps → (s : RingStep) → Listed s steps → trace_value s.edge s.end ≡ pos 0
on_edge z ts steps k s l = let o = onward steps s l in (k.turns _ o.listed).on_edge
