-- Traces as the code makes them, and the signs of half-spaces at a height.
use Rattle.std.proofs.Math.IntN.{*ℤ-zero}
use Rattle.std.proofs.Common.{◌≡◌, ◌^◌, ◌<◌, ℤ, pos, ◌≤ℤ◌, ◌<ℤ◌, nat_abs, ◌-ℤ◌, ◌*ℤ◌, Bool, true, false, ◌&&◌, ◌||◌, not, List, [], ◌∷◌, Some, None, ⊎_elim, refl, sym, ap, ◌∙◌, subst, arith, to_z, of_z}
use Rattle.std.specs.Int.RustNames.{FitsSigned}
use mir.Syntax.{w32}
use Rattle.std.specs.List.{list_all, AllByRecursion}
use Rattle.std.proofs.lemmas.Int.{ints, to_z-of_z}
use Rattle.std.proofs.lemmas.Bool.Decides.{Decides-int_eq}
use Rattle.std.proofs.lemmas.List.Folds.{list_all-append}
use Rattle.rp_algebra.specs.Integer.{int_eq, is_zero, is_positive, is_nonnegative, gcd, gcd_of}
use Rattle.rp_algebra.specs.Within.{IsWithin}
use Rattle.rp_algebra.proofs.IntLaws.{linear, le_of_mul_le_left_ℤ, mul_nonneg_ℤ, nonneg_of_pos_ℤ}
use Rattle.rp_algebra.proofs.Divisors.{gcd_of-cons, gcd_of-one, gcd_of-positive, gcd_of-at_most_head, gcd-zero}
use Rattle.rp_algebra.proofs.Machine.{read_is}
use Rattle.rp_algebra.proofs.Numbers.{zero_or_not}
use Rattle.rp_algebra.proofs.Options.{none_not_some, same_some}
use Rattle.rp_algebra.proofs.Reify.{by_ring_at, reify}
use Rattle.rp_algebra.proofs.Tests.{and_first, and_second, and_true, zero_is, is_zero_true, nonnegative_is, is_nonnegative_true, false_not_true, false_unless, same_test}
use Rattle.rp_algebra.proofs.Listed.{all_pass, of_all, all_of, all_append}
use Rattle.rp_geometry.specs.Geometry.{RationalPoint, HalfSpace, IsHalfSpace, half_space_of, owns_boundary, side_value, IsPoint, IsKeptPoint, point_eq}
use Rattle.rp_geometry.specs.laws.CellLaws.{AreHalfSpaces}
use Rattle.rp_geometry.specs.laws.SectionLaws.{IsSmallTrace}
use Rattle.rp_geometry.specs.sections.Trace.{IsHeight, IsAtHeight, Trace, offset_at, has_trace, trace_at, trace_eq, trace_value, is_at_height, level_point, holds_level, cube_sides, with_sides}
use Rattle.rp_geometry.specs.sections.Ring.{RingStep, is_step, is_trace_of, is_lowest_point, all_traces_hold, all_levels_hold}
use Rattle.rp_slice.proofs.Traces.{direction_of, trace_at-is, side_of_trace, trace_from, trace_eq-to, is_trace_of-to}
use Rattle.rp_slice.proofs.Small.{height_within, trace_is_small_spec}
use Rattle.rp_cert.specs.Section.{trace_if, turn_from}

-- ---- traces

-- a half-space with a trace has it
pub traced : (z : ℤ) (h : HalfSpace) → has_trace h ≡ true → trace_if z h ≡ Some (trace_at z h)
traced z h e = λ i. elim (e i) [ true ↦ Some (trace_at z h) | false ↦ None ]

-- a trace that is given is the one of the half-space, which has one
pub given_trace : (z : ℤ) (h : HalfSpace) (t : Trace) → trace_if z h ≡ Some t → (has_trace h ≡ true) × (trace_at z h ≡ t)
given_trace z h t e = by_test (has_trace h) refl e
  where
    by_test : (b : Bool) → has_trace h ≡ b → elim b [ true ↦ Some (trace_at z h) | false ↦ None ] ≡ Some t → (has_trace h ≡ true) × (trace_at z h ≡ t)
    by_test true k f = (k, same_some (trace_at z h) t f)
    by_test false k f = absurd (none_not_some t f)

-- a half-space has not the trace of another direction
pub other_direction : (z : ℤ) (h : HalfSpace) (e : Trace) → is_zero (turn_from e h) ≡ false → (has_trace h && trace_eq (trace_at z h) e) ≡ false
other_direction z h e n =
    false_unless (has_trace h && trace_eq (trace_at z h) e)
    (λ p.
    let k = trace_at-is z h (direction_of h (and_first (has_trace h) _ p)) in
    let s = trace_eq-to (trace_at z h) e (and_second (has_trace h) _ p) in
    false_not_true (is_zero (turn_from e h)) (is_zero_true _ (turned k.factor e.a e.b h.a h.b (ap (λ (t : Trace). k.factor *ℤ t.a) (sym s) ∙ k.a) (ap (λ (t : Trace). k.factor *ℤ t.b) (sym s) ∙ k.b))) n)
  where
    turned : (g a b u v : ℤ) → g *ℤ a ≡ u → g *ℤ b ≡ v → a *ℤ v -ℤ b *ℤ u ≡ pos 0
    turned g a b u v eu ev = (λ i. a *ℤ sym ev i -ℤ b *ℤ sym eu i) ∙ by_ring_at (g ∷ a ∷ b ∷ []) (search reify depth 40 fits 100000) tt

-- a number of 32 bits, as it is read
pub short_is : (v : ℤ) → FitsSigned w32 v → to_z w32 (of_z w32 v) ≡ v
short_is v f = to_z-of_z w32 v f

-- its size
pub short_within : (v : ℤ) → FitsSigned w32 v → IsWithin (2 ^ 31) (to_z w32 (of_z w32 v))
short_within v f = subst (IsWithin (2 ^ 31)) (sym (to_z-of_z w32 v f)) (record { abs_le = (let h = f.sfits in omega (arith, ints, h)) })

-- ---- heights

-- a height, as it is passed on
pub read_height : (z : ℤ) → IsHeight z → to_z w32 (of_z w32 z) ≡ z
read_height z h = read_is w32 (height_within z h) tt

-- it is a height
pub passed_height : (z : ℤ) → IsHeight z → IsHeight (to_z w32 (of_z w32 z))
passed_height z h = subst IsHeight (sym (read_height z h)) h

-- a point of the height is a point of the height that is passed on
pub passed_there : (z : ℤ) (p : RationalPoint) → IsHeight z → IsAtHeight z p → IsAtHeight (to_z w32 (of_z w32 z)) p
passed_there z p h e = subst (λ (v : ℤ). IsAtHeight v p) (sym (read_height z h)) e

-- ---- levels

-- a half-space holds the point of a height on the axis by its offset there
pub level_by_offset : (z : ℤ) (h : HalfSpace) → holds_level z h ≡ (is_positive (offset_at z h) || (is_zero (offset_at z h) && owns_boundary h))
level_by_offset z h = ap (λ (v : ℤ). is_positive v || (is_zero v && owns_boundary h)) value
  where
    value : side_value h (level_point z) ≡ offset_at z h
    value = by_ring_at (h.a ∷ h.b ∷ h.c ∷ h.d ∷ z ∷ []) (search reify depth 40 fits 100000) tt

-- ---- divisors

-- the divisor of three numbers, one after the other from the last
pub three_numbers : (a b d : ℤ) → gcd_of (a ∷ b ∷ d ∷ []) ≡ gcd (gcd (nat_abs d) (nat_abs b)) (nat_abs a)
three_numbers a b d =
    gcd_of-cons a (b ∷ d ∷ [])
    ∙ ap (λ n. gcd n (nat_abs a)) (gcd_of-cons b (d ∷ []) ∙ ap (λ n. gcd n (nat_abs b)) (gcd_of-one d))

-- it is above 0
pub divisor_above : (a b d : ℤ) → not (is_zero a && is_zero b) ≡ true → 0 < gcd_of (a ∷ b ∷ d ∷ [])
divisor_above a b d e = let n = direction_of (half_space_of a b (pos 0) d) e in gcd_of-positive (a ∷ b ∷ d ∷ []) (λ k. n k.0 k.1.0)

-- it is small
pub divisor_small : (a b d : ℤ) → IsWithin (2 ^ 24) a → IsWithin (2 ^ 24) b → not (is_zero a && is_zero b) ≡ true → gcd_of (a ∷ b ∷ d ∷ []) < 2 ^ 127
divisor_small a b d ha hb e =
    let n = direction_of (half_space_of a b (pos 0) d) e in
    ⊎_elim
    (λ (z : a ≡ pos 0).
    let most = gcd_of-at_most_head b (d ∷ []) (n z) in
    let same = gcd_of-cons a (b ∷ d ∷ []) ∙ ap (λ (v : ℤ). gcd (gcd_of (b ∷ d ∷ [])) (nat_abs v)) z ∙ gcd-zero (gcd_of (b ∷ d ∷ [])) in
    let size = hb.abs_le in
    omega (arith, ints, most, same, size))
    (λ (k : a ≡ pos 0 → ⊥).
    let most = gcd_of-at_most_head a (b ∷ d ∷ []) k in
    let size = ha.abs_le in
    omega (arith, ints, most, size))
    (zero_or_not a)

-- ---- points of the height

-- two numbers are equal where their difference is 0
pub equal_by_difference : (u v : ℤ) → is_zero (u -ℤ v) ≡ int_eq u v
equal_by_difference u v =
    same_test (is_zero (u -ℤ v)) (int_eq u v)
    (λ e. (Decides-int_eq u v).1 (let d = zero_is (u -ℤ v) e in omega (arith, linear, d)))
    (λ e. is_zero_true (u -ℤ v) (let d = (Decides-int_eq u v).0 e in omega (arith, linear, d)))

-- two numbers whose difference is 0 are one
pub same_by_difference : (u v : ℤ) → is_zero (u -ℤ v) ≡ true → u ≡ v
same_by_difference u v e = (Decides-int_eq u v).0 (sym (equal_by_difference u v) ∙ e)

-- the points of the program are in lowest terms
pub kept_lowest : (p : RationalPoint) → IsKeptPoint p → is_lowest_point p ≡ true
kept_lowest p k = and_true _ _ (positive p.w k.numbers.positive) (subst (λ (q : RationalPoint). point_eq q p ≡ true) (sym k.lowest) (same p))
  where
    positive : (v : ℤ) → IsPoint (record { x = pos 0; y = pos 0; z = pos 0; w = v }) → is_positive v ≡ true
    positive v h = grind (arith, ints)

    same : (q : RationalPoint) → point_eq q q ≡ true
    same q =
        and_true _ _ ((Decides-int_eq q.x q.x).1 refl)
        (and_true _ _ ((Decides-int_eq q.y q.y).1 refl)
        (and_true _ _ ((Decides-int_eq q.z q.z).1 refl) ((Decides-int_eq q.w q.w).1 refl)))

-- at a point of the height a half-space is negative where its trace is
pub side_sign : (z : ℤ) (h : HalfSpace) (p : RationalPoint) → has_trace h ≡ true → IsAtHeight z p → is_nonnegative (side_value h p) ≡ is_nonnegative (trace_value (trace_at z h) p)
side_sign z h p e k =
    let t = trace_at-is z h (direction_of h e) in
    let s = side_of_trace z h (trace_at z h) p k t in
    same_test (is_nonnegative (side_value h p)) (is_nonnegative (trace_value (trace_at z h) p))
    (λ n. is_nonnegative_true _ (from_multiple t.factor (trace_value (trace_at z h) p) (side_value h p) t.positive s (nonnegative_is _ n)))
    (λ n. is_nonnegative_true _ (to_multiple t.factor (trace_value (trace_at z h) p) (side_value h p) t.positive s (nonnegative_is _ n)))
  where
    from_multiple : (k u v : ℤ) → pos 0 <ℤ k → v ≡ k *ℤ u → pos 0 ≤ℤ v → pos 0 ≤ℤ u
    from_multiple k u v h e n = le_of_mul_le_left_ℤ k (pos 0) u h (rw (*ℤ-zero k, ← e) n)

    to_multiple : (k u v : ℤ) → pos 0 <ℤ k → v ≡ k *ℤ u → pos 0 ≤ℤ u → pos 0 ≤ℤ v
    to_multiple k u v h e n = rw e (mul_nonneg_ℤ k u (nonneg_of_pos_ℤ k h) n)

-- ---- the upright sides of the cube

-- they have traces, so only the cell's half-spaces can miss one
pub levels_of_cell : (z : ℤ) (cell : List HalfSpace) → all_levels_hold z (with_sides cell) ≡ list_all (λ h. has_trace h || holds_level z h) cell
levels_of_cell z cell = list_all-append (λ h. has_trace h || holds_level z h) cell cube_sides ∙ passing (list_all (λ h. has_trace h || holds_level z h) cell)
  where
    passing : (b : Bool) → (b && true) ≡ b
    passing true = refl
    passing false = refl

-- they are half-spaces
sides_bounds : AllByRecursion IsHalfSpace cube_sides
sides_bounds = (
  record { a = omega arith; b = omega arith; c = omega arith; d = omega arith; nonzero = refl },
  (
    record { a = omega arith; b = omega arith; c = omega arith; d = omega arith; nonzero = refl },
    (
      record { a = omega arith; b = omega arith; c = omega arith; d = omega arith; nonzero = refl },
      (record { a = omega arith; b = omega arith; c = omega arith; d = omega arith; nonzero = refl }, tt),
    ),
  ),
)

-- the edges of steps that pass are small
pub small_edges : (z : ℤ) (cell : List HalfSpace) (steps : List RingStep) → IsHeight z → AreHalfSpaces cell → list_all (is_step z (with_sides cell)) steps ≡ true → AllByRecursion (λ s. IsSmallTrace s.edge) steps
small_edges z cell steps hz bounds e =
    of_all (λ s. IsSmallTrace s.edge) steps
    (λ s l.
    let p = all_pass (is_step z (with_sides cell)) steps e s l in
    let q = and_first (is_trace_of z (with_sides cell) s.edge) (is_lowest_point s.end) (and_first _ (is_at_height z s.end) (and_first _ (all_traces_hold z (with_sides cell) s.end) p)) in
    let c = trace_from z (with_sides cell) s.edge (is_trace_of-to z (with_sides cell) s.edge q) in
    subst IsSmallTrace (sym c.same) (trace_is_small_spec z c.of hz (all_of IsHalfSpace (with_sides cell) (all_append IsHalfSpace cell cube_sides bounds sides_bounds) c.of c.listed)))
