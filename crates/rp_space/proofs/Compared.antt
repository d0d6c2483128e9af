-- Numbers as the machine compares them.
use Rattle.std.proofs.Common.{◌≡◌, ◌∙◌, ℤ, to_z, of_z}
use Rattle.std.specs.Prelude.{int_le, int_lt}
use Rattle.std.specs.Int.{int_min, int_max}
use Rattle.std.specs.Int.RustNames.{FitsSigned}
use Rattle.std.proofs.lemmas.Int.{to_z-of_z}
use mir.Syntax.{w32}

-- whether the first of two numbers is less
pub read_less : (a b : ℤ) → FitsSigned w32 a → FitsSigned w32 b → int_lt (to_z w32 (of_z w32 a)) (to_z w32 (of_z w32 b)) ≡ int_lt a b
read_less a b f g = λ i. int_lt (to_z-of_z w32 a f i) (to_z-of_z w32 b g i)

-- whether the first is at most the second
pub read_at_most : (a b : ℤ) → FitsSigned w32 a → FitsSigned w32 b → int_le (to_z w32 (of_z w32 a)) (to_z w32 (of_z w32 b)) ≡ int_le a b
read_at_most a b f g = λ i. int_le (to_z-of_z w32 a f i) (to_z-of_z w32 b g i)

-- the lesser of two numbers
pub lesser_is : (r a b : ℤ) → FitsSigned w32 r → FitsSigned w32 a → FitsSigned w32 b → r ≡ int_min (to_z w32 (of_z w32 a)) (to_z w32 (of_z w32 b)) → to_z w32 (of_z w32 r) ≡ int_min a b
lesser_is r a b fr fa fb e = to_z-of_z w32 r fr ∙ e ∙ (λ i. int_min (to_z-of_z w32 a fa i) (to_z-of_z w32 b fb i))

-- the greater of two numbers
pub greater_is : (r a b : ℤ) → FitsSigned w32 r → FitsSigned w32 a → FitsSigned w32 b → r ≡ int_max (to_z w32 (of_z w32 a)) (to_z w32 (of_z w32 b)) → to_z w32 (of_z w32 r) ≡ int_max a b
greater_is r a b fr fa fb e = to_z-of_z w32 r fr ∙ e ∙ (λ i. int_max (to_z-of_z w32 a fa i) (to_z-of_z w32 b fb i))
