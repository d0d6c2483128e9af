-- A refutation by at most two half-spaces is the first of all.
use Rattle.std.proofs.Common.{◌≡◌, Bool, false, List, Option, Some, None, refl, sym, ap}
use Rattle.std.specs.Prelude.{IsTrue, is_some}
use Rattle.rp_algebra.proofs.Tests.{false_not_true}
use Rattle.rp_geometry.specs.Geometry.{RationalPoint, HalfSpace, with_cube}
use Rattle.rp_geometry.specs.searches.Search.{first_of, first_of_pairs, first_of_triples, first_of_quadruples}
use Rattle.rp_geometry.specs.searches.Certificate.{Multiple, is_outside_certificate}
use Rattle.rp_geometry.specs.searches.Elimination.{refutation_of_one, refutation_of_two, refutation_of_three, refutation_of_four, first_outside}
use Rattle.rp_geometry.specs.laws.CellLaws.{AreHalfSpaces, IsSolution}
use Rattle.rp_elim.specs.FewTerms.{first_of_two}
use Rattle.rp_elim.proofs.Found.{found_passes, none_where_solution}

-- the first of two searches that finds something is the first of three that does
pub first_of_three : {A : Type 0} (one two more : Option A) (x : A) → elim one [ Some y ↦ Some y | None ↦ two ] ≡ Some x
    → elim one [ Some y ↦ Some y | None ↦ elim two [ Some y ↦ Some y | None ↦ more ] ] ≡ Some x
first_of_three (Some y) two more x e = e
first_of_three None (Some y) more x e = e
first_of_three None None more x e = absurd (false_not_true false (ap is_some e) refl)

-- what is found by at most two is the first certificate
pub few_are_first : (strict : Bool) (cell : List HalfSpace) (terms : List Multiple) → first_of_two strict (with_cube cell) ≡ Some terms → first_outside strict cell ≡ Some terms
unfolding first_outside
few_are_first strict cell terms e =
    first_of_three (first_of (refutation_of_one strict) (with_cube cell)) (first_of_pairs (refutation_of_two strict) (with_cube cell)) (
    elim (first_of_triples (refutation_of_three strict) (with_cube cell)) [ Some ts ↦ Some ts | None ↦ first_of_quadruples (refutation_of_four strict) (with_cube cell) ]
    ) terms e

-- and so it passes
pub few_pass : (strict : Bool) (cell : List HalfSpace) → AreHalfSpaces cell → (terms : List Multiple) → first_outside strict cell ≡ Some terms → IsTrue (is_outside_certificate strict cell terms)
few_pass strict cell bounds terms e = found_passes strict cell bounds (Some terms) (sym e)

-- and nothing solves the cell
pub few_leave_none : (strict : Bool) (cell : List HalfSpace) → AreHalfSpaces cell → (terms : List Multiple) → first_outside strict cell ≡ Some terms → (p : RationalPoint) → ¬ IsSolution strict cell p
few_leave_none strict cell bounds terms e p s = false_not_true (is_some (Some terms)) refl ((none_where_solution strict cell bounds (Some terms) (sym e)).1 (p, s))
