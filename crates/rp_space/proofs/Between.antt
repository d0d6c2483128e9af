-- A coordinate between two whole numbers, as the machine compares it.
use Rattle.std.proofs.Common.{◌≡◌, ◌<◌, ◌≤◌, ◌^◌, ℤ, ◌*ℤ◌, true, false, ◌&&◌, to_z, of_z, sym, ap, ◌∙◌, subst, arith}
use Rattle.std.specs.Prelude.{int_le, int_lt}
use Rattle.std.specs.Int.RustNames.{unsigned_abs, FitsSigned}
use Rattle.std.proofs.lemmas.Int.{ints, to_z-of_z}
use mir.Syntax.{w32, w128}
use Rattle.rp_algebra.proofs.Machine.{code, fits_by, is_by}
use Rattle.rp_geometry.specs.Geometry.{is_between}

-- the product of a number of units and a weight fits
pub scaled_fits : (units w : ℤ) → FitsSigned w32 units → unsigned_abs w < 2 ^ 75 → FitsSigned w128 (to_z w128 (of_z w128 (to_z w32 (of_z w32 units))) *ℤ to_z w128 (of_z w128 w))
scaled_fits units w f weight =
    subst (λ (x : ℤ). FitsSigned w128 (to_z w128 (of_z w128 x) *ℤ to_z w128 (of_z w128 w))) (sym (to_z-of_z w32 units f)) (wide units w (size units f) weight)
  where
    size : (units : ℤ) → FitsSigned w32 units → unsigned_abs units ≤ 2 ^ 31
    size units f = omega (arith, ints)

    wide : (units w : ℤ) → unsigned_abs units ≤ 2 ^ 31 → unsigned_abs w < 2 ^ 75 → FitsSigned w128 (to_z w128 (of_z w128 units) *ℤ to_z w128 (of_z w128 w))
    wide units w small weight = fits_by (search code depth 30 fits 100000) tt

-- and it is the product
pub scaled_is : (units w : ℤ) → FitsSigned w32 units → unsigned_abs w < 2 ^ 75 → to_z w128 (of_z w128 (to_z w128 (of_z w128 (to_z w32 (of_z w32 units))) *ℤ to_z w128 (of_z w128 w))) ≡ units *ℤ w
scaled_is units w f weight =
    ap (λ (x : ℤ). to_z w128 (of_z w128 (to_z w128 (of_z w128 x) *ℤ to_z w128 (of_z w128 w)))) (to_z-of_z w32 units f) ∙ wide units w (size units f) weight
  where
    size : (units : ℤ) → FitsSigned w32 units → unsigned_abs units ≤ 2 ^ 31
    size units f = omega (arith, ints)

    wide : (units w : ℤ) → unsigned_abs units ≤ 2 ^ 31 → unsigned_abs w < 2 ^ 75 → to_z w128 (of_z w128 (to_z w128 (of_z w128 units) *ℤ to_z w128 (of_z w128 w))) ≡ units *ℤ w
    wide units w small weight = is_by (search code depth 30 fits 100000) tt

-- a product as the machine hands it on
pub handed : (units w r : ℤ) → FitsSigned w32 units → FitsSigned w128 w → FitsSigned w128 r → r ≡ to_z w32 (of_z w32 units) *ℤ to_z w128 (of_z w128 w) → to_z w128 (of_z w128 r) ≡ units *ℤ w
handed units w r fu fw fr e = to_z-of_z w128 r fr ∙ e ∙ (λ i. to_z-of_z w32 units fu i *ℤ to_z-of_z w128 w fw i)

-- where the lower bound is kept, the upper one decides
pub upper_decides : (lo hi v w : ℤ) → int_le (lo *ℤ w) v ≡ true → int_lt v (hi *ℤ w) ≡ is_between lo hi v w
upper_decides lo hi v w e = sym (ap (λ b. b && int_lt v (hi *ℤ w)) e)

-- where it is not, the coordinate is not between them
pub lower_decides : (lo hi v w : ℤ) → int_le (lo *ℤ w) v ≡ false → int_le (lo *ℤ w) v ≡ is_between lo hi v w
lower_decides lo hi v w e = e ∙ sym (ap (λ b. b && int_lt v (hi *ℤ w)) e)

-- the comparison of numbers as the machine hands them on
pub read_between : (lo hi v w : ℤ) → FitsSigned w32 lo → FitsSigned w32 hi → FitsSigned w128 v → FitsSigned w128 w
    → is_between (to_z w32 (of_z w32 lo)) (to_z w32 (of_z w32 hi)) (to_z w128 (of_z w128 v)) (to_z w128 (of_z w128 w)) ≡ is_between lo hi v w
read_between lo hi v w fl fh fv fw = λ i. is_between (to_z-of_z w32 lo fl i) (to_z-of_z w32 hi fh i) (to_z-of_z w128 v fv i) (to_z-of_z w128 w fw i)
