-- What is found passes, and nothing is found exactly where there is a solution.
use Rattle.std.proofs.Common.{◌≡◌, Bool, List, Option, ⊎_elim, ap, sym, subst, ◌∙◌}
use Rattle.std.specs.Prelude.{◌↔◌, IsNone, IsTrue, IfSome, is_some}
use Rattle.rp_algebra.proofs.Tests.{false_unless, false_not_true}
use Rattle.rp_geometry.specs.Geometry.{RationalPoint, HalfSpace}
use Rattle.rp_geometry.specs.searches.Certificate.{Multiple, is_outside_certificate}
use Rattle.rp_geometry.specs.searches.Elimination.{first_outside}
use Rattle.rp_geometry.specs.laws.CellLaws.{AreHalfSpaces, IsSolution}
use Rattle.rp_convex.proofs.Alternative.{solution_or_certificate_spec}
use Rattle.rp_convex.proofs.OutsideFound.{outside_is_found_spec}

-- what is found is an outside certificate
pub found_passes : (strict : Bool) (cell : List HalfSpace) → AreHalfSpaces cell → (r : Option (List Multiple)) → r ≡ first_outside strict cell → IfSome r (λ terms. IsTrue (is_outside_certificate strict cell terms))
found_passes strict cell bounds r e = subst (λ (o : Option (List Multiple)). IfSome o (λ terms. IsTrue (is_outside_certificate strict cell terms))) (sym e) (outside_is_found_spec strict cell bounds).passes

-- nothing is found exactly where there is a solution
pub none_where_solution : (strict : Bool) (cell : List HalfSpace) → AreHalfSpaces cell → (r : Option (List Multiple)) → r ≡ first_outside strict cell → IsNone r ↔ ((p : RationalPoint) × IsSolution strict cell p)
none_where_solution strict cell bounds r e =
    let either = solution_or_certificate_spec strict cell bounds in
    let finds = outside_is_found_spec strict cell bounds in (
      λ none. ⊎_elim (λ s. s) (λ terms. absurd (false_not_true (is_some r) (ap is_some e ∙ finds.some.1 (λ p s. either.1 (p, s) terms)) none)) either.0,
      λ s. false_unless (is_some r) (λ some. finds.some.0 (sym (ap is_some e) ∙ some) s.0 s.1),
    )
