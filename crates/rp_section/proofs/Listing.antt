-- Lists of sides, one side after the other.
use Rattle.std.proofs.Common.{◌≡◌, ℕ, ◌+◌, ◌-◌, ◌<◌, ℤ, Bool, true, false, List, [], ◌∷◌, ◌++◌, length, get_or, take, drop, refl, sym, ap, ◌∙◌, arith}
use Rattle.std.proofs.lemmas.List.{take_more, drop_more}
use Rattle.rp_geometry.specs.Geometry.{RationalPoint, HalfSpace}
use Rattle.rp_geometry.specs.sections.Trace.{has_trace}
use Rattle.rp_geometry.specs.sections.Ring.{RingStep}
use Rattle.rp_section.specs.declared.side.Side.{Side}
use Rattle.rp_section.specs.Sides.{side_of, sides_of, side_steps_to}

-- ---- half-spaces with a trace

-- those of two lists
pub sides_append : (z : ℤ) (xs ys : List HalfSpace) → sides_of z (xs ++ ys) ≡ sides_of z xs ++ sides_of z ys
sides_append z [] ys = refl
sides_append z (x ∷ xs) ys = by_test (has_trace x) (sides_append z xs ys)
  where
    by_test : (b : Bool) → sides_of z (xs ++ ys) ≡ sides_of z xs ++ sides_of z ys
        → elim b [ true ↦ side_of z x ∷ sides_of z (xs ++ ys) | false ↦ sides_of z (xs ++ ys) ] ≡ elim b [ true ↦ side_of z x ∷ sides_of z xs | false ↦ sides_of z xs ] ++ sides_of z ys
    by_test true e = ap (λ ss. side_of z x ∷ ss) e
    by_test false e = e

-- one half-space more
pub sides_more : (z : ℤ) (hs : List HalfSpace) (i : ℕ) (h : HalfSpace) → i < length hs → h ≡ get_or hs i h → sides_of z (take (i + 1) hs) ≡ sides_of z (take i hs) ++ sides_of z (h ∷ [])
sides_more z hs i h l e = ap (sides_of z) (take_more hs i h l ∙ (λ k. take i hs ++ sym e k ∷ [])) ∙ sides_append z (take i hs) (h ∷ [])

-- ---- sides by their angles

-- the last few sides, and one more before them
pub more_behind : (sides : List Side) (n : ℕ) (s : Side) → n < length sides → s ≡ get_or sides (length sides - 1 - n) s → drop (length sides - (n + 1)) sides ≡ s ∷ drop (length sides - n) sides
more_behind sides n s l e =
    let same : length sides - (n + 1) ≡ length sides - 1 - n = omega (arith, l) in
    let next : length sides - 1 - n + 1 ≡ length sides - n = omega (arith, l) in
    ap (λ k. drop k sides) same ∙ drop_more sides (length sides - 1 - n) s (omega (arith, l)) ∙ (λ k. sym e k ∷ drop (next k) sides)

-- ---- steps

-- the steps from a side on
abbrev pub steps_left : HalfSpace → RationalPoint → List Side → ℕ → List RingStep
steps_left level other [] i = []
steps_left level other (s ∷ sides) i = side_steps_to level other s (drop i (s ∷ sides))
