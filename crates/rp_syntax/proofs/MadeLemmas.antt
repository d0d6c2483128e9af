-- Half-spaces made of numbers within their bounds: only four zeros are refused.
use Rattle.std.proofs.Common.{◌≡◌, ℕ, ◌≤◌, ℤ, pos, Bool, true, false, Result, Ok, Err, to_z, of_z, refl, sym, ap, ◌∙◌, arith}
use Rattle.std.specs.Int.RustNames.{FitsSigned}
use Rattle.std.proofs.lemmas.Bool.{and_parts}
use Rattle.std.proofs.lemmas.Int.{ints, to_z-of_z}
use mir.Syntax.{w64, w128}
use Rattle.rp_geometry.specs.Geometry.{HalfSpace, half_space_of, is_within_bound, is_half_space_in_bounds, is_zero_half_space, reduced_half_space}
use Rattle.rp_language.specs.Grammar.{Place, Reader, zero_half_space, out_of_range, gives, fails, nonzero_half_space}
use Rattle.rp_geometry.proofs.InLowestTerms.{size_within}
use Rattle.rp_space.specs.declared.half.HalfFault.{HalfFault}
use Rattle.rp_space.specs.declared.half.HalfFault.TheVariants.{Range, Zero}
use Rattle.rp_space.specs.MadeHalfSpace.{made_half_space}

-- a number within a bound, narrowed by the machine
narrowed : (n : ℕ) (v : ℤ) → n ≤ 844424930131968 → is_within_bound (pos n) v ≡ true → FitsSigned w128 v → to_z w64 (of_z w64 (to_z w128 (of_z w128 v))) ≡ v
narrowed n v small inside wide =
    let narrow : FitsSigned w64 v = fits n v small inside in
    ap (λ (x : ℤ). to_z w64 (of_z w64 x)) (to_z-of_z w128 v wide) ∙ to_z-of_z w64 v narrow
  where
    fits : (n : ℕ) (v : ℤ) → n ≤ 844424930131968 → is_within_bound (pos n) v ≡ true → FitsSigned w64 v
    fits n v small e = let s = size_within n v e in omega (arith, ints, s)

-- what is made of numbers within their bounds, by the test of zeros
abbrev pub made_by : Bool → HalfSpace → Result HalfSpace HalfFault
made_by z k = elim z [ true ↦ Err Zero | false ↦ Ok k ]

-- what is read of them
abbrev read_by : Bool → HalfSpace → Reader HalfSpace
read_by z k = elim z [ true ↦ fails zero_half_space | false ↦ gives k ]

-- the machine's numbers make what the numbers make
pub made_within : (a b c d : ℤ) → FitsSigned w128 a → FitsSigned w128 b → FitsSigned w128 c → FitsSigned w128 d → is_half_space_in_bounds (half_space_of a b c d) ≡ true
    → made_half_space (half_space_of (to_z w64 (of_z w64 (to_z w128 (of_z w128 a)))) (to_z w64 (of_z w64 (to_z w128 (of_z w128 b)))) (to_z w64 (of_z w64 (to_z w128 (of_z w128 c)))) (to_z w64 (of_z w64 (to_z w128 (of_z w128 d)))))
    ≡ made_by (is_zero_half_space (half_space_of a b c d)) (reduced_half_space (half_space_of a b c d))
made_within a b c d fa fb fc fd inside =
    let abc = and_parts _ _ inside in
    let ab = and_parts _ _ abc.0 in
    let a_in = and_parts _ _ ab.0 in
    let na = narrowed 16777216 a (omega arith) a_in.0 fa in
    let nb = narrowed 16777216 b (omega arith) a_in.1 fb in
    let nc = narrowed 16777216 c (omega arith) ab.1 fc in
    let nd = narrowed 844424930131968 d (omega arith) abc.1 fd in
    ap made_half_space (λ i. half_space_of (na i) (nb i) (nc i) (nd i)) ∙ rw inside refl

ok_by : (z : Bool) (k h : HalfSpace) (place : Place) → made_by z k ≡ Ok h → read_by z k place ≡ Ok (h, place)
ok_by true k h place e = cc
ok_by false k h place e = cc

zero_by : (z : Bool) (k : HalfSpace) (place : Place) (f : HalfFault) → f ≡ Zero → made_by z k ≡ Err f → read_by z k place ≡ Err zero_half_space
zero_by true k place f z e = refl
zero_by false k place f z e = cc

range_by : (z : Bool) (k : HalfSpace) (place : Place) (f : HalfFault) → f ≡ Range → made_by z k ≡ Err f → read_by z k place ≡ Err out_of_range
range_by true k place f z e = cc
range_by false k place f z e = cc

-- a half-space that was made is read
pub read_made : (h k : HalfSpace) (r : Result HalfSpace HalfFault) (place : Place) → r ≡ made_by (is_zero_half_space h) (reduced_half_space h) → r ≡ Ok k → nonzero_half_space h place ≡ Ok (k, place)
read_made h k r place e was = ok_by (is_zero_half_space h) (reduced_half_space h) k place (sym e ∙ was)

-- four zeros are the fault that is read
pub read_zero : (h : HalfSpace) (r : Result HalfSpace HalfFault) (f : HalfFault) (place : Place) → r ≡ made_by (is_zero_half_space h) (reduced_half_space h) → r ≡ Err f → f ≡ Zero → nonzero_half_space h place ≡ Err zero_half_space
read_zero h r f place e was z = zero_by (is_zero_half_space h) (reduced_half_space h) place f z (sym e ∙ was)

-- no bound is passed
pub read_range : (h : HalfSpace) (r : Result HalfSpace HalfFault) (f : HalfFault) (place : Place) → r ≡ made_by (is_zero_half_space h) (reduced_half_space h) → r ≡ Err f → f ≡ Range → nonzero_half_space h place ≡ Err out_of_range
read_range h r f place e was z = range_by (is_zero_half_space h) (reduced_half_space h) place f z (sym e ∙ was)
