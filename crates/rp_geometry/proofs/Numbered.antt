-- Numbers of parts that a test finds in a list.
use Rattle.std.proofs.Common.{◌≡◌, ℕ, true, List, subst, refl}
use Rattle.std.proofs.lemmas.Bool.{eqb-true, eq-eqb}
use Rattle.std.specs.Prelude.{◌==◌}
use Rattle.rp_algebra.proofs.Listed.{Listed}
use Rattle.rp_algebra.proofs.Filter.{some_passes, passes_some}
use Rattle.rp_geometry.specs.parts.Groups.{is_listed_number}

-- a number that the test finds stands in the list
pub listed_is : (k : ℕ) (ks : List ℕ) → is_listed_number k ks ≡ true → Listed k ks
listed_is k ks e = let s = some_passes (λ j. j == k) ks e in subst (λ j. Listed j ks) (eqb-true s.item k s.passes) s.listed

-- a number that stands in the list is found
pub listed_true : (k : ℕ) (ks : List ℕ) → Listed k ks → is_listed_number k ks ≡ true
listed_true k ks l = passes_some (λ j. j == k) ks k l (eq-eqb k k refl)
