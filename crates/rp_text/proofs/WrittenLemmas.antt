-- What may be written, from the calls that make a half-space or a point in lowest terms.
use Rattle.std.proofs.Common.{◌≡◌, Bool, true, false, ◌&&◌, not, ℤ, pos, to_z, of_z, ℕ, List, Option, Some, None, refl, sym, ap, ◌∙◌, subst, arith}
use Rattle.std.specs.Prelude.{Result, Ok, Err, int_le}
use Rattle.std.specs.Int.RustNames.{FitsSigned}
use Rattle.std.proofs.lemmas.Int.{ints, to_z-of_z}
use mir.Syntax.{w64, w128}
use Rattle.rp_algebra.specs.Integer.{int_eq}
use Rattle.std.proofs.lemmas.Bool.Decides.{Decides-int_eq}
use Rattle.rp_algebra.proofs.Tests.{and_first, and_second, false_unless, false_not_true}
use Rattle.rp_algebra.proofs.Options.{same_some, some_not_none}
use Rattle.rp_geometry.specs.Geometry.{RationalPoint, HalfSpace, point_of, half_space_of, half_space_eq, is_within_bound, cube_bound, offset_bound, is_half_space_in_bounds, is_zero_half_space, reduced_half_space, is_point_in_bounds, reduced_point, point_eq}
use Rattle.rp_geometry.proofs.Points.{point_eq-to}
use Rattle.rp_space.specs.declared.half.HalfFault.{HalfFault}
use Rattle.rp_space.specs.declared.half.HalfFault.TheVariants.{Range as HalfRange, Zero}
use Rattle.rp_space.specs.declared.point.PointFault.{PointFault}
use Rattle.rp_space.specs.declared.point.PointFault.TheVariants.{Weight, Range as PointRange}
use Rattle.rp_space.specs.MadeHalfSpace.{made_half_space}
use Rattle.rp_space.specs.MadePoint.{made_point}
use Rattle.rp_text.specs.Readers.{gives_some, kept_if, four_numbers, written_point, written_half_space, point, half_space}
use Rattle.rp_text.proofs.ReaderLaws.{onward}

-- ---- numbers as calls take them

-- a number of 64 bits
abbrev pub in_64 : ℤ → ℤ
in_64 v = to_z w64 (of_z w64 v)

-- a number of 128 bits
abbrev pub in_128 : ℤ → ℤ
in_128 v = to_z w128 (of_z w128 v)

-- ---- half-spaces

-- the half-space of four numbers of 64 bits, as a call takes them
pub half_of_words : (a b c d : ℤ) → FitsSigned w64 a → FitsSigned w64 b → FitsSigned w64 c → FitsSigned w64 d → half_space_of (in_64 a) (in_64 b) (in_64 c) (in_64 d) ≡ half_space_of a b c d
half_of_words a b c d fits_a fits_b fits_c fits_d = λ i. half_space_of (to_z-of_z w64 a fits_a i) (to_z-of_z w64 b fits_b i) (to_z-of_z w64 c fits_c i) (to_z-of_z w64 d fits_d i)

-- the half-space of four numbers of 128 bits, as a call takes them
pub half_of_long_words : (a b c d : ℤ) → FitsSigned w128 a → FitsSigned w128 b → FitsSigned w128 c → FitsSigned w128 d → half_space_of (in_128 a) (in_128 b) (in_128 c) (in_128 d) ≡ half_space_of a b c d
half_of_long_words a b c d fits_a fits_b fits_c fits_d = λ i. half_space_of (to_z-of_z w128 a fits_a i) (to_z-of_z w128 b fits_b i) (to_z-of_z w128 c fits_c i) (to_z-of_z w128 d fits_d i)

-- four tests, one after the other
four_tests : (a b c d : Bool) → (a && b && c && d) ≡ (a && (b && (c && d)))
four_tests true b c d = three b
  where
    three : (b : Bool) → (b && c && d) ≡ (b && (c && d))
    three true = refl
    three false = refl
four_tests false b c d = refl

-- the numbers of a half-space are compared with four numbers, as a call takes them
pub half_compared : (h : HalfSpace) (p q r s a b c d : ℤ) (test : Bool) → FitsSigned w64 a → FitsSigned w64 b → FitsSigned w64 c → FitsSigned w64 d → half_space_of p q r s ≡ h
    → test ≡ (int_eq p (in_64 a) && int_eq q (in_64 b) && int_eq r (in_64 c) && int_eq s (in_64 d)) → test ≡ half_space_eq h (half_space_of a b c d)
half_compared h p q r s a b c d test fits_a fits_b fits_c fits_d is e =
    e ∙ four_tests (int_eq p (in_64 a)) (int_eq q (in_64 b)) (int_eq r (in_64 c)) (int_eq s (in_64 d))
    ∙ ap (λ (k : HalfSpace). half_space_eq k (half_space_of (in_64 a) (in_64 b) (in_64 c) (in_64 d))) is
    ∙ ap (half_space_eq h) (half_of_words a b c d fits_a fits_b fits_c fits_d)

-- half-spaces that pass the test are the same
half_space_same : (h k : HalfSpace) → half_space_eq h k ≡ true → h ≡ k
half_space_same h k e =
    let a = (Decides-int_eq h.a k.a).0 (and_first _ _ e) in
    let bcd = and_second (int_eq h.a k.a) _ e in
    let b = (Decides-int_eq h.b k.b).0 (and_first _ _ bcd) in
    let cd = and_second (int_eq h.b k.b) _ bcd in
    let c = (Decides-int_eq h.c k.c).0 (and_first _ _ cd) in
    let d = (Decides-int_eq h.d k.d).0 (and_second (int_eq h.c k.c) _ cd) in
    λ i. record { a = a i; b = b i; c = c i; d = d i }

-- a half-space that was made, if it is the one that was given
pub half_made : (h k : HalfSpace) (same : Bool) → Ok k ≡ made_half_space h → same ≡ half_space_eq k h → kept_if same k ≡ written_half_space h
half_made h k same e is = ap (λ (t : Bool). kept_if t k) is ∙ either (half_space_eq k h) refl ∙ by (is_half_space_in_bounds h) (is_zero_half_space h) (reduced_half_space h) e
  where
    either : (t : Bool) → half_space_eq k h ≡ t → kept_if t k ≡ kept_if t h
    either true e = ap Some (half_space_same k h e)
    either false e = refl

    by : (bounds zero : Bool) (r : HalfSpace) → Ok k ≡ elim bounds as (λ _. Result HalfSpace HalfFault) [ false ↦ Err HalfRange | true ↦ elim zero as (λ _. Result HalfSpace HalfFault) [ true ↦ Err Zero | false ↦ Ok r ] ] → kept_if (half_space_eq k h) h ≡ kept_if (bounds && not zero && half_space_eq r h) h
    by true false r e = let same : k ≡ r = cc in ap (λ (x : HalfSpace). kept_if (half_space_eq x h) h) same
    by true true r e = absurd (cc)
    by false zero r e = absurd (cc)

-- a half-space that could not be made
pub half_not_made : (h : HalfSpace) (fault : HalfFault) → Err fault ≡ made_half_space h → None ≡ written_half_space h
half_not_made h fault e = by (is_half_space_in_bounds h) (is_zero_half_space h) (reduced_half_space h) e
  where
    by : (bounds zero : Bool) (r : HalfSpace) → Err fault ≡ elim bounds as (λ _. Result HalfSpace HalfFault) [ false ↦ Err HalfRange | true ↦ elim zero as (λ _. Result HalfSpace HalfFault) [ true ↦ Err Zero | false ↦ Ok r ] ] → None ≡ kept_if (bounds && not zero && half_space_eq r h) h
    by true false r e = absurd (cc)
    by true true r e = refl
    by false zero r e = refl

-- ---- points

-- the point of four numbers of 128 bits, as a call takes them
pub point_of_words : (x y z w : ℤ) → FitsSigned w128 x → FitsSigned w128 y → FitsSigned w128 z → FitsSigned w128 w → point_of (in_128 x) (in_128 y) (in_128 z) (in_128 w) ≡ point_of x y z w
point_of_words x y z w fits_x fits_y fits_z fits_w = λ i. point_of (to_z-of_z w128 x fits_x i) (to_z-of_z w128 y fits_y i) (to_z-of_z w128 z fits_z i) (to_z-of_z w128 w fits_w i)

-- the numbers of a point are compared with four numbers, as a call takes them
pub point_compared : (u : RationalPoint) (a b c d x y z w : ℤ) (test : Bool) → FitsSigned w128 x → FitsSigned w128 y → FitsSigned w128 z → FitsSigned w128 w → point_of a b c d ≡ u
    → test ≡ (int_eq a (in_128 x) && int_eq b (in_128 y) && int_eq c (in_128 z) && int_eq d (in_128 w)) → test ≡ point_eq u (point_of x y z w)
point_compared u a b c d x y z w test fits_x fits_y fits_z fits_w is e =
    e ∙ four_tests (int_eq a (in_128 x)) (int_eq b (in_128 y)) (int_eq c (in_128 z)) (int_eq d (in_128 w))
    ∙ ap (λ (v : RationalPoint). point_eq v (point_of (in_128 x) (in_128 y) (in_128 z) (in_128 w))) is
    ∙ ap (point_eq u) (point_of_words x y z w fits_x fits_y fits_z fits_w)

-- a point that was made, if it is the one that was given
pub point_made : (p q : RationalPoint) (same : Bool) → Ok q ≡ made_point p → same ≡ point_eq q p → kept_if same q ≡ written_point p
point_made p q same e is = ap (λ (t : Bool). kept_if t q) is ∙ either (point_eq q p) refl ∙ by (is_point_in_bounds p) (int_le (pos 1) p.w) (reduced_point p) e
  where
    either : (t : Bool) → point_eq q p ≡ t → kept_if t q ≡ kept_if t p
    either true e = ap Some (point_eq-to q p e)
    either false e = refl

    by : (bounds above : Bool) (r : RationalPoint) → Ok q ≡ elim above as (λ _. Result RationalPoint PointFault) [ false ↦ Err Weight | true ↦ elim bounds as (λ _. Result RationalPoint PointFault) [ false ↦ Err PointRange | true ↦ Ok r ] ] → kept_if (point_eq q p) p ≡ kept_if (bounds && above && point_eq r p) p
    by true true r e = let same : q ≡ r = cc in ap (λ (x : RationalPoint). kept_if (point_eq x p) p) same
    by false true r e = absurd (cc)
    by bounds false r e = absurd (cc)

-- ---- numbers of half-spaces that are too great

-- a number within the bound of the first three numbers is within that of the fourth
within_offset : (v : ℤ) → is_within_bound cube_bound v ≡ true → is_within_bound offset_bound v ≡ true
within_offset v e = grind (arith, ints)

-- a half-space that passes its bounds is not written
unbounded : (h : HalfSpace) → is_half_space_in_bounds h ≡ false → None ≡ written_half_space h
unbounded h e = sym (ap (λ (b : Bool). kept_if (b && not (is_zero_half_space h) && half_space_eq (reduced_half_space h) h) h) e)

-- one of the four numbers, as a call takes it, is too great
pub too_great : (h : HalfSpace) (v : ℤ) → FitsSigned w128 v → None ≡ kept_if (is_within_bound offset_bound (in_128 v)) (in_128 v) → (is_half_space_in_bounds h ≡ true → is_within_bound offset_bound v ≡ true) → None ≡ written_half_space h
too_great h v fits e within = unbounded h (false_unless (is_half_space_in_bounds h) (λ b. not_within (is_within_bound offset_bound v) (subst (λ (u : ℤ). None ≡ kept_if (is_within_bound offset_bound u) u) (to_z-of_z w128 v fits) e) (within b)))
  where
    not_within : (t : Bool) → None ≡ kept_if t v → t ≡ true → ⊥
    not_within true e t = some_not_none v (sym e)
    not_within false e t = false_not_true false t refl

-- the first is within the bound of offsets
pub first_within : (h : HalfSpace) → is_half_space_in_bounds h ≡ true → is_within_bound offset_bound h.a ≡ true
first_within h e = within_offset h.a (and_first _ _ (and_first _ _ (and_first _ _ e)))

-- the second
pub second_within : (h : HalfSpace) → is_half_space_in_bounds h ≡ true → is_within_bound offset_bound h.b ≡ true
second_within h e = within_offset h.b (and_second (is_within_bound cube_bound h.a) _ (and_first _ _ (and_first _ _ e)))

-- the third
pub third_within : (h : HalfSpace) → is_half_space_in_bounds h ≡ true → is_within_bound offset_bound h.c ≡ true
third_within h e = within_offset h.c (and_second _ (is_within_bound cube_bound h.c) (and_first _ _ e))

-- the fourth
pub fourth_within : (h : HalfSpace) → is_half_space_in_bounds h ≡ true → is_within_bound offset_bound h.d ≡ true
fourth_within h e = and_second _ (is_within_bound offset_bound h.d) e

-- a number that is kept is the number, as a call takes it
pub kept_is : (u v : ℤ) → FitsSigned w128 v → Some u ≡ kept_if (is_within_bound offset_bound (in_128 v)) (in_128 v) → u ≡ v
kept_is u v fits e = by (is_within_bound offset_bound (in_128 v)) e ∙ to_z-of_z w128 v fits
  where
    by : (t : Bool) → Some u ≡ kept_if t (in_128 v) → u ≡ in_128 v
    by true e = same_some u (in_128 v) e
    by false e = absurd (some_not_none u e)

-- ---- what is read behind four numbers

-- a point
pub point_read : (line rest : List ℕ) (q : ℤ × ℤ × ℤ × ℤ) (p : RationalPoint) → Some (q, rest) ≡ four_numbers line → Some p ≡ written_point (point_of q.0 q.1 q.2 q.3) → Some (p, rest) ≡ point line
unfolding point
point_read line rest q p e f = sym (onward four_numbers (λ (n : ℤ × ℤ × ℤ × ℤ). gives_some (written_point (point_of n.0 n.1 n.2 n.3))) line q rest (sym e) ∙ ap (λ (o : Option RationalPoint). gives_some o rest) (sym f))

-- a half-space
pub half_read : (line rest : List ℕ) (q : ℤ × ℤ × ℤ × ℤ) (h : HalfSpace) → Some (q, rest) ≡ four_numbers line → Some h ≡ written_half_space (half_space_of q.0 q.1 q.2 q.3) → Some (h, rest) ≡ half_space line
unfolding half_space
half_read line rest q h e f = sym (onward four_numbers (λ (n : ℤ × ℤ × ℤ × ℤ). gives_some (written_half_space (half_space_of n.0 n.1 n.2 n.3))) line q rest (sym e) ∙ ap (λ (o : Option HalfSpace). gives_some o rest) (sym f))

-- or no half-space
pub half_missed : (line rest : List ℕ) (q : ℤ × ℤ × ℤ × ℤ) → Some (q, rest) ≡ four_numbers line → None ≡ written_half_space (half_space_of q.0 q.1 q.2 q.3) → None ≡ half_space line
unfolding half_space
half_missed line rest q e f = sym (onward four_numbers (λ (n : ℤ × ℤ × ℤ × ℤ). gives_some (written_half_space (half_space_of n.0 n.1 n.2 n.3))) line q rest (sym e) ∙ ap (λ (o : Option HalfSpace). gives_some o rest) (sym f))
