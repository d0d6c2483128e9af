-- Members at a height: the points there that all traces of the flat list hold, where its half-spaces without a trace hold the height.
use Rattle.std.proofs.Common.{◌≡◌, ℤ, pos, negsuc, neg_ℤ, ◌+ℤ◌, ◌*ℤ◌, ◌≤ℤ◌, ◌<ℤ◌, Bool, true, false, ◌&&◌, ◌||◌, not, List, [], ◌∷◌, ⊎_elim, refl, sym, ap, ◌∙◌, subst, arith}
use Rattle.std.proofs.lemmas.Int.{ints}
use Rattle.std.proofs.lemmas.Bool.{or_right}
use Rattle.rp_algebra.specs.Integer.{is_zero, is_positive}
use Rattle.rp_algebra.proofs.IntLaws.{linear, signs, trichotomy_ℤ, mul_pos_ℤ}
use Rattle.rp_algebra.proofs.Numbers.{nat_positive}
use Rattle.rp_algebra.proofs.Reify.{by_ring_at, reify}
use Rattle.rp_algebra.proofs.Tests.{and_first, and_second, and_true, zero_is, is_zero_true, false_not_true}
use Rattle.rp_algebra.proofs.Listed.{Listed, first, later, listed_left, listed_right, listed_cases, all_pass, pass_all}
use Rattle.rp_geometry.specs.Geometry.{RationalPoint, HalfSpace, IsPoint, half_space_of, cube_bound, side_value, owns_boundary, holds, is_cube_point, cube_half_spaces}
use Rattle.rp_geometry.specs.sets.Shape.{IsMember, shape_of_cell}
use Rattle.rp_geometry.specs.sections.Trace.{IsAtHeight, IsHeight, Trace, has_trace, offset_at, trace_at, trace_holds, level_point, holds_level, cube_sides, with_sides}
use Rattle.rp_geometry.specs.laws.SectionLaws.{IsMemberAt}
use Rattle.rp_convex.proofs.Cube.{cube_half_spaces_hold_cube_spec}
use Rattle.rp_convex.proofs.Signs.{same_sign}
use Rattle.rp_convex.proofs.Certified.{held_by_positive}
use Rattle.rp_convex.proofs.Held.{held_of, of_held}
use Rattle.rp_slice.proofs.Traces.{direction_of, trace_at-is, side_at_height, trace_holds_same, traces, trace_listed, trace_from}
use Rattle.rp_slice.proofs.Rings.{LevelsHold}

-- ---- half-spaces without a trace

-- the directions of one without a trace are 0
pub record IsLevel (h : HalfSpace) : Type 0 where
  pub a : h.a ≡ pos 0
  pub b : h.b ≡ pos 0

-- so it is
pub level_of : (h : HalfSpace) → has_trace h ≡ false → IsLevel h
level_of h e = let k = both (is_zero h.a && is_zero h.b) e in record { a = zero_is h.a (and_first (is_zero h.a) _ k); b = zero_is h.b (and_second (is_zero h.a) _ k) }
  where
    both : (x : Bool) → not x ≡ false → x ≡ true
    both true e = refl
    both false e = absurd (false_not_true true refl e)

-- its value at a point of the height
level_value : (z : ℤ) (h : HalfSpace) (p : RationalPoint) → IsLevel h → IsAtHeight z p → side_value h p ≡ p.w *ℤ offset_at z h
level_value z h p k e =
    side_at_height z h p e
    ∙ (λ i. k.a i *ℤ p.x +ℤ k.b i *ℤ p.y +ℤ offset_at z h *ℤ p.w)
    ∙ by_ring_at (p.x ∷ p.y ∷ p.w ∷ offset_at z h ∷ []) (search reify depth 40 fits 100000) tt

-- at the height it holds all points or none
pub level_same : (z : ℤ) (h : HalfSpace) (p : RationalPoint) → has_trace h ≡ false → IsPoint p → IsAtHeight z p → holds h p ≡ holds_level z h
level_same z h p n w e =
    let k = level_of h n in
    let s = same_sign (side_value h p) (side_value h (level_point z)) p.w (pos 1) w (nat_positive 1 (omega arith)) (one_less _ _ (offset_at z h) p.w (level_value z h p k e) (level_value z h (level_point z) k (sym (one_left z)))) in
    λ i. s.positive i || (s.zero i && owns_boundary h)
  where
    one_left : (z : ℤ) → z *ℤ pos 1 ≡ z
    one_left z = by_ring_at (z ∷ []) (search reify depth 40 fits 100000) tt

    one_less : (u v o w : ℤ) → u ≡ w *ℤ o → v ≡ pos 1 *ℤ o → pos 1 *ℤ u ≡ w *ℤ v
    one_less u v o w eu ev = ap (λ (x : ℤ). pos 1 *ℤ x) eu ∙ by_ring_at (w ∷ o ∷ []) (search reify depth 40 fits 100000) tt ∙ ap (λ (x : ℤ). w *ℤ x) (sym ev)

-- ---- the sides of the cube

-- a point of the cube is held by its upright sides
side_holds : (p : RationalPoint) → IsPoint p → is_cube_point p ≡ true → (h : HalfSpace) → Listed h cube_sides → holds h p ≡ true
side_holds p w c h l =
    all_pass (λ h. holds h p) cube_half_spaces (cube_half_spaces_hold_cube_spec p w ∙ c) h (listed_left h cube_sides (half_space_of (pos 0) (pos 0) (pos 1) cube_bound ∷ half_space_of (pos 0) (pos 0) (negsuc 0) cube_bound ∷ []) l)

-- the lower side of the cube at a point of the height
lower_value : (m z x y w : ℤ) → pos 0 *ℤ x +ℤ pos 0 *ℤ y +ℤ pos 1 *ℤ (z *ℤ w) +ℤ m *ℤ w ≡ (z +ℤ m) *ℤ w
lower_value m z x y w = by_ring_at (m ∷ z ∷ x ∷ y ∷ w ∷ []) (search reify depth 40 fits 100000) tt

-- the upper side of the cube at a point of the height
upper_value : (m z x y w : ℤ) → pos 0 *ℤ x +ℤ pos 0 *ℤ y +ℤ negsuc 0 *ℤ (z *ℤ w) +ℤ m *ℤ w ≡ (m +ℤ neg_ℤ z) *ℤ w
upper_value m z x y w = by_ring_at (m ∷ z ∷ x ∷ y ∷ w ∷ []) (search reify depth 40 fits 100000) tt

-- a half-space that owns its boundary holds where it is not negative
owned_holds : (h : HalfSpace) (p : RationalPoint) → owns_boundary h ≡ true → pos 0 ≤ℤ side_value h p → holds h p ≡ true
owned_holds h p o k =
    ⊎_elim
    (λ (l : side_value h p <ℤ pos 0). absurd (omega (arith, linear, l, k)))
    (λ r. ⊎_elim
    (λ (z : side_value h p ≡ pos 0). or_right (is_positive (side_value h p)) _ (and_true _ _ (is_zero_true _ z) o))
    (λ g. held_by_positive h p g) r)
    (trichotomy_ℤ (side_value h p) (pos 0))

-- the two level sides of the cube hold the points of its heights
levels_hold : (z : ℤ) (p : RationalPoint) → IsHeight z → IsPoint p → IsAtHeight z p → (h : HalfSpace) → Listed h (half_space_of (pos 0) (pos 0) (pos 1) cube_bound ∷ half_space_of (pos 0) (pos 0) (negsuc 0) cube_bound ∷ []) → holds h p ≡ true
levels_hold z p k w e h first =
    let lower = k.lower in
    let n : pos 0 ≤ℤ (z +ℤ cube_bound) = omega (arith, ints, lower) in
    let v : pos 0 ≤ℤ ((z +ℤ cube_bound) *ℤ p.w) = search signs in
    owned_holds (half_space_of (pos 0) (pos 0) (pos 1) cube_bound) p refl
    (subst (λ (u : ℤ). pos 0 ≤ℤ u) (sym (ap (λ (u : ℤ). pos 0 *ℤ p.x +ℤ pos 0 *ℤ p.y +ℤ pos 1 *ℤ u +ℤ cube_bound *ℤ p.w) e ∙ lower_value cube_bound z p.x p.y p.w)) v)
levels_hold z p k w e h (later first) =
    let upper = k.upper in
    let n : pos 0 <ℤ (cube_bound +ℤ neg_ℤ z) = omega (arith, ints, upper) in
    let v : pos 0 <ℤ ((cube_bound +ℤ neg_ℤ z) *ℤ p.w) = mul_pos_ℤ _ _ n w in
    held_by_positive (half_space_of (pos 0) (pos 0) (negsuc 0) cube_bound) p
    (subst (λ (u : ℤ). pos 0 <ℤ u) (sym (ap (λ (u : ℤ). pos 0 *ℤ p.x +ℤ pos 0 *ℤ p.y +ℤ negsuc 0 *ℤ u +ℤ cube_bound *ℤ p.w) e ∙ upper_value cube_bound z p.x p.y p.w)) v)
levels_hold z p k w e h (later (later l)) = elim l [ ]

-- a point of a height of the cube that its upright sides hold is in the cube
cube_from : (z : ℤ) (p : RationalPoint) → IsHeight z → IsPoint p → IsAtHeight z p → ((h : HalfSpace) → Listed h cube_sides → holds h p ≡ true) → is_cube_point p ≡ true
cube_from z p k w e sides =
    sym (cube_half_spaces_hold_cube_spec p w)
    ∙ pass_all (λ h. holds h p) cube_half_spaces (λ h l. ⊎_elim (sides h) (levels_hold z p k w e h) (listed_cases h cube_sides (half_space_of (pos 0) (pos 0) (pos 1) cube_bound ∷ half_space_of (pos 0) (pos 0) (negsuc 0) cube_bound ∷ []) l))

-- ---- members

-- a point of the height that all traces hold, where the half-spaces without a trace hold the height
pub record IsHeldAt (z : ℤ) (cell : List HalfSpace) (p : RationalPoint) : Type 0 where
  pub point : IsPoint p
  pub height : IsAtHeight z p
  pub traces_hold : (t : Trace) → Listed t (traces z (with_sides cell)) → trace_holds t p ≡ true
  pub levels : LevelsHold z (with_sides cell)

-- the half-spaces of the flat list hold a member
list_holds : (cell : List HalfSpace) (p : RationalPoint) → IsMember (shape_of_cell cell) p → (h : HalfSpace) → Listed h (with_sides cell) → holds h p ≡ true
list_holds cell p m h l = let k = held_of cell p m in ⊎_elim (k.each h) (side_holds p k.point k.in_cube h) (listed_cases h cell cube_sides l)

-- a member at the height is such a point
pub held_at_of : (z : ℤ) (cell : List HalfSpace) (p : RationalPoint) → IsMemberAt z cell p → IsHeldAt z cell p
held_at_of z cell p m = record {
  point = m.member.0;
  height = m.height;
  traces_hold = λ t l. (let c = trace_from z (with_sides cell) t l in
      ap (λ (u : Trace). trace_holds u p) c.same
      ∙ sym (trace_holds_same z c.of (trace_at z c.of) p c.has (trace_at-is z c.of (direction_of c.of c.has)) m.height)
      ∙ list_holds cell p m.member c.of c.listed);
  levels = λ h l n. sym (level_same z h p n m.member.0 m.height) ∙ list_holds cell p m.member h l;
}

-- at the height, a half-space of the flat list holds such a point
held_by : (z : ℤ) (cell : List HalfSpace) (p : RationalPoint) → IsHeldAt z cell p → (h : HalfSpace) → Listed h (with_sides cell) → (b : Bool) → has_trace h ≡ b → holds h p ≡ true
held_by z cell p k h l true e = trace_holds_same z h (trace_at z h) p e (trace_at-is z h (direction_of h e)) k.height ∙ k.traces_hold (trace_at z h) (trace_listed z (with_sides cell) h l e)
held_by z cell p k h l false e = level_same z h p e k.point k.height ∙ k.levels h l e

-- and such a point is a member
pub of_held_at : (z : ℤ) (cell : List HalfSpace) (p : RationalPoint) → IsHeight z → IsHeldAt z cell p → IsMemberAt z cell p
of_held_at z cell p hz k = record {
  member = of_held cell p (record {
    point = k.point;
    in_cube = cube_from z p hz k.point k.height (λ h l. held_by z cell p k h (listed_right h cell cube_sides l) (has_trace h) refl);
    each = λ h l. held_by z cell p k h (listed_left h cell cube_sides l) (has_trace h) refl;
  });
  height = k.height;
}
