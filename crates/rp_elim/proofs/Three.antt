-- Three minors that are not of one sign do not refute.
use Rattle.std.proofs.Common.{◌≡◌, ℤ, pos, neg_ℤ, Bool, true, false, ◌&&◌, not, List, [], ◌∷◌, Some, None, refl, sym, ◌∙◌, arith}
use Rattle.std.proofs.lemmas.Int.{ints}
use Rattle.rp_algebra.specs.Integer.{is_zero, is_positive, is_negative}
use Rattle.rp_algebra.proofs.Tests.{and_first, and_second, and_true, false_not_true, positive_is}
use Rattle.rp_geometry.specs.Geometry.{HalfSpace}
use Rattle.rp_geometry.specs.searches.Search.{first_of}
use Rattle.rp_geometry.specs.searches.Vertex.{det2}
use Rattle.rp_geometry.specs.searches.Elimination.{multiple_of, minors_of_three, minors_on_axes, normal_terms, terms_if, refutation_of_three}
use Rattle.rp_elim.specs.Axes.{along, axes_of, minor_on}
use Rattle.rp_elim.specs.declared.minors.Axis.{Axis}
use Rattle.rp_elim.specs.declared.minors.Axis.TheVariants.{X, Y, Z}
use Rattle.rp_elim.specs.Sides.{has_sign}
use Rattle.rp_elim.proofs.Mixed.{below_zero, twice, not_two_signs, zero_not_positive}
use Rattle.rp_elim.proofs.Signs.{mixed_refutation}

-- the minors of three half-spaces are those on the axes of the first two
pub three_minors : (f g h : HalfSpace) → minors_on_axes f g h (along (axes_of f g).0) (along (axes_of f g).1) ≡ minors_of_three f g h
three_minors f g h =
    elim (is_zero (det2 f.a f.b g.a g.b)) as (λ b.
    (let axes : Axis × Axis = elim b [ false ↦ (X, Y) | true ↦ elim (is_zero (det2 f.a f.c g.a g.c)) [ false ↦ (X, Z) | true ↦ (Y, Z) ] ] in
    minors_on_axes f g h (along axes.0) (along axes.1))
    ≡ elim b [
      | false ↦ minors_on_axes f g h (λ k. k.a) (λ k. k.b)
      | true ↦ elim (is_zero (det2 f.a f.c g.a g.c)) [ false ↦ minors_on_axes f g h (λ k. k.a) (λ k. k.c) | true ↦ minors_on_axes f g h (λ k. k.b) (λ k. k.c) ]
    ]) [
      | false ↦ refl
      | true ↦ elim (is_zero (det2 f.a f.c g.a g.c)) as (λ b.
          (let axes : Axis × Axis = elim b [ false ↦ (X, Z) | true ↦ (Y, Z) ] in
          minors_on_axes f g h (along axes.0) (along axes.1))
          ≡ elim b [ false ↦ minors_on_axes f g h (λ k. k.a) (λ k. k.c) | true ↦ minors_on_axes f g h (λ k. k.b) (λ k. k.c) ]) [ false ↦ refl | true ↦ refl ]
    ]

-- ---- the tests of three minors, of which the last one's sign is known
-- they are not all positive where one of the others has not that sign
not_all_positive : (s : Bool) (x y z : ℤ) → has_sign s z ≡ true → (has_sign s x && has_sign (not s) y) ≡ false → (is_positive x && (is_positive (neg_ℤ y) && (is_positive z && true))) ≡ true → ⊥
not_all_positive true x y z last n e =
    let yz = is_positive (neg_ℤ y) && (is_positive z && true) in
    let px = and_first (is_positive x) yz e in
    let py = and_first (is_positive (neg_ℤ y)) (is_positive z && true) (and_second (is_positive x) yz e) in
    false_not_true (is_positive x && is_negative y) (and_true (is_positive x) (is_negative y) px (below_zero y py)) n
not_all_positive false x y z last n e =
    let yz = is_positive (neg_ℤ y) && (is_positive z && true) in
    let ez = and_second (is_positive (neg_ℤ y)) (is_positive z && true) (and_second (is_positive x) yz e) in
    not_two_signs z (and_first (is_positive z) true ez) last

-- nor are their negatives
not_all_negative : (s : Bool) (x y z : ℤ) → has_sign s z ≡ true → (has_sign s x && has_sign (not s) y) ≡ false → (is_positive (neg_ℤ x) && (is_positive (neg_ℤ (neg_ℤ y)) && (is_positive (neg_ℤ z) && true))) ≡ true → ⊥
not_all_negative true x y z last n e =
    let yz = is_positive (neg_ℤ (neg_ℤ y)) && (is_positive (neg_ℤ z) && true) in
    let ez = and_second (is_positive (neg_ℤ (neg_ℤ y))) (is_positive (neg_ℤ z) && true) (and_second (is_positive (neg_ℤ x)) yz e) in
    not_two_signs z last (below_zero z (and_first (is_positive (neg_ℤ z)) true ez))
not_all_negative false x y z last n e =
    let yz = is_positive (neg_ℤ (neg_ℤ y)) && (is_positive (neg_ℤ z) && true) in
    let px = and_first (is_positive (neg_ℤ x)) yz e in
    let py = and_first (is_positive (neg_ℤ (neg_ℤ y))) (is_positive (neg_ℤ z) && true) (and_second (is_positive (neg_ℤ x)) yz e) in
    false_not_true (is_negative x && is_positive y) (and_true (is_negative x) (is_positive y) (below_zero x px) (twice y py)) n

-- ---- the refutation
-- it is made of the minors on the axes of the first two
pub refutation_on_axes : (strict : Bool) (f g h : HalfSpace) → refutation_of_three strict f g h ≡ terms_if strict (normal_terms (minors_on_axes f g h (along (axes_of f g).0) (along (axes_of f g).1)))
unfolding refutation_of_three
refutation_on_axes strict f g h = λ i. terms_if strict (normal_terms (sym (three_minors f g h) i))

-- three half-spaces do not refute where one of the first two minors has not the sign of the last one
pub mixed_three : (strict s : Bool) (f g h : HalfSpace) → has_sign s (minor_on (axes_of f g) f g) ≡ true → (has_sign s (minor_on (axes_of f g) g h) && has_sign (not s) (minor_on (axes_of f g) f h)) ≡ false → refutation_of_three strict f g h ≡ None
mixed_three strict s f g h last n =
    let x = minor_on (axes_of f g) g h in
    let y = minor_on (axes_of f g) f h in
    let z = minor_on (axes_of f g) f g in
    refutation_on_axes strict f g h
    ∙ mixed_refutation strict (multiple_of x f) (multiple_of (neg_ℤ y) g ∷ multiple_of z h ∷ [])
    (λ p. not_all_positive s x y z last n p)
    (λ p. not_all_negative s x y z last n p)

-- ---- the last minor is 0
-- 0 is not above 0
zero_not_above : (z : ℤ) → z ≡ pos 0 → is_positive z ≡ true → ⊥
zero_not_above z e p = let h = positive_is z p in omega (arith, ints, h, e)

-- three half-spaces do not refute where the first two have dependent normals
pub dependent_two : (strict : Bool) (f g : HalfSpace) → minor_on (axes_of f g) f g ≡ pos 0 → (h : HalfSpace) → refutation_of_three strict f g h ≡ None
dependent_two strict f g d h =
    let x = minor_on (axes_of f g) g h in
    let y = minor_on (axes_of f g) f h in
    let z = minor_on (axes_of f g) f g in
    refutation_on_axes strict f g h
    ∙ mixed_refutation strict (multiple_of x f) (multiple_of (neg_ℤ y) g ∷ multiple_of z h ∷ [])
    (λ p. zero_not_above z d (and_first (is_positive z) true (and_second (is_positive (neg_ℤ y)) (is_positive z && true)
    (and_second (is_positive x) (is_positive (neg_ℤ y) && (is_positive z && true)) p))))
    (λ p. zero_not_positive z d (and_first (is_positive (neg_ℤ z)) true (and_second (is_positive (neg_ℤ (neg_ℤ y))) (is_positive (neg_ℤ z) && true)
    (and_second (is_positive (neg_ℤ x)) (is_positive (neg_ℤ (neg_ℤ y)) && (is_positive (neg_ℤ z) && true)) p))))

-- then no further half-space helps
pub none_with_dependent_two : (strict : Bool) (f g : HalfSpace) → minor_on (axes_of f g) f g ≡ pos 0 → (hs : List HalfSpace) → first_of (refutation_of_three strict f g) hs ≡ None
none_with_dependent_two strict f g d [] = refl
none_with_dependent_two strict f g d (h ∷ hs) =
    (λ i. elim (dependent_two strict f g d h i) [ Some terms ↦ Some terms | None ↦ first_of (refutation_of_three strict f g) hs ])
    ∙ none_with_dependent_two strict f g d hs
