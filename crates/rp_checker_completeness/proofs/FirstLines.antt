-- The first certificates of a kept cell may be written, and pass their checks.
use Rattle.std.proofs.Common.{◌≡◌, Bool, true, false, ◌&&◌, List, [], ◌∷◌, length, Option, Some, None, refl, sym, ap, ◌∙◌, subst}
use Rattle.std.specs.Prelude.{IfSome, is_some, unwrap_or}
use Rattle.std.specs.List.{list_all}
use Rattle.rp_algebra.proofs.Tests.{and_true, and_first, and_second, false_not_true}
use Rattle.rp_algebra.proofs.Options.{known_some, KnownSome}
use Rattle.rp_algebra.proofs.Listed.{list_all_true}
use Rattle.rp_geometry.specs.Geometry.{RationalPoint, HalfSpace, IsPoint, IsKeptPoint, IsKeptHalfSpace, is_listed, with_cube}
use Rattle.rp_geometry.specs.sets.Shape.{shape_of_cell}
use Rattle.rp_geometry.specs.sets.Sets.{IsEmpty}
use Rattle.rp_geometry.specs.searches.Certificate.{Multiple, is_one_to_four, is_multiplier, is_inside_certificate, is_weak_point, is_outside_certificate}
use Rattle.rp_geometry.specs.searches.Vertex.{first_inside, first_weak_point}
use Rattle.rp_geometry.specs.searches.Elimination.{first_outside}
use Rattle.rp_geometry.specs.searches.ProofLine.{ProofLine, in_line, out_line, at_line, apart_line, outside_terms, strict_line, weak_line}
use Rattle.rp_geometry.specs.parts.PartTest.{has_member, has_weak_point}
use Rattle.rp_geometry.specs.laws.CellLaws.{IsSolution, FindsOutside}
use Rattle.rp_geometry.specs.parts.Parts.{AreKeptHalfSpaces}
use Rattle.rp_reports.specs.ProofText.{is_written_point, is_written_multiple, are_written_terms, is_written}
use Rattle.rp_convex.proofs.InsideFound.{inside_is_found_spec}
use Rattle.rp_convex.proofs.WeakPoint.{weak_point_is_found_spec}
use Rattle.rp_convex.proofs.Certified.{strict_solution_is_member_spec}
use Rattle.rp_convex.proofs.OutsideFound.{outside_is_found_spec}
use Rattle.rp_convex.proofs.Tests.{listed-to}
use Rattle.rp_geometry.proofs.Kept.{are_half_spaces, with_cube_kept}
use Rattle.rp_checker_completeness.proofs.WrittenHalfSpaces.{half_space_written}
use Rattle.rp_checker_completeness.proofs.KeptPoints.{inside_kept, weak_point_kept, point_written}

-- ---- terms

-- a term of a list of kept half-spaces may be written
term_written : (hs : List HalfSpace) → AreKeptHalfSpaces hs → (t : Multiple) → (is_multiplier t.factor && is_listed t.of hs) ≡ true → is_written_multiple t ≡ true
term_written hs k t e = and_true (is_multiplier t.factor) _ (and_first (is_multiplier t.factor) _ e) (half_space_written t.of (listed-to IsKeptHalfSpace t.of hs (and_second (is_multiplier t.factor) _ e) k))

-- terms of a list of kept half-spaces may be written
terms_written : (hs : List HalfSpace) → AreKeptHalfSpaces hs → (ts : List Multiple) → list_all (λ t. is_multiplier t.factor && is_listed t.of hs) ts ≡ true → list_all is_written_multiple ts ≡ true
terms_written hs k [] e = refl
terms_written hs k (t ∷ ts) e =
    and_true _ _ (term_written hs k t (and_first (is_multiplier t.factor && is_listed t.of hs) _ e)) (terms_written hs k ts (and_second (is_multiplier t.factor && is_listed t.of hs) _ e))

-- the terms of a certificate of a kept cell may be written
pub certificate_written : (strict : Bool) (cell : List HalfSpace) → AreKeptHalfSpaces cell → (ts : List Multiple) → is_outside_certificate strict cell ts ≡ true → are_written_terms ts ≡ true
certificate_written strict cell k ts e =
    let two = and_first _ _ (and_first _ _ e) in
    and_true (is_one_to_four (length ts)) _ (and_first (is_one_to_four (length ts)) _ two)
    (terms_written (with_cube cell) (with_cube_kept cell k) ts (and_second (is_one_to_four (length ts)) _ two))

-- ---- where there is no member, no weak point

-- the terms that are shown of a cell that has no solution are a certificate, and may be written
pub record ShowsOutside (strict : Bool) (cell : List HalfSpace) : Type 0 where
  pub passes : is_outside_certificate strict cell (outside_terms strict cell) ≡ true
  pub written : are_written_terms (outside_terms strict cell) ≡ true

-- a cell without a solution shows it
pub shows_outside : (strict : Bool) (cell : List HalfSpace) → AreKeptHalfSpaces cell → ((p : RationalPoint) → ¬ IsSolution strict cell p) → ShowsOutside strict cell
shows_outside strict cell k n =
    let f = outside_is_found_spec strict cell (are_half_spaces cell k) in
    here f (known_some (first_outside strict cell) (f.some.1 n))
  where
    here : FindsOutside strict cell → KnownSome (first_outside strict cell) → ShowsOutside strict cell
    here f s =
        let passes : is_outside_certificate strict cell s.value ≡ true = subst (λ o. IfSome o (λ ts. is_outside_certificate strict cell ts ≡ true)) s.is f.passes in
        let is : s.value ≡ outside_terms strict cell = sym (ap (λ (o : Option (List Multiple)). unwrap_or o []) s.is) in
        record {
          passes = subst (λ ts. is_outside_certificate strict cell ts ≡ true) is passes;
          written = subst (λ ts. are_written_terms ts ≡ true) is (certificate_written strict cell k s.value passes);
        }

-- a cell in which the search finds no member
pub shows_no_member : (cell : List HalfSpace) → AreKeptHalfSpaces cell → has_member cell ≡ false → ShowsOutside true cell
unfolding has_member
shows_no_member cell k e = shows_outside true cell k (λ p s. (inside_is_found_spec cell (are_half_spaces cell k)).none.0 e p (strict_solution_is_member_spec cell p s))

-- a cell in which the search finds no weak point
pub shows_no_weak_point : (cell : List HalfSpace) → AreKeptHalfSpaces cell → has_weak_point cell ≡ false → ShowsOutside false cell
unfolding has_weak_point
shows_no_weak_point cell k e = shows_outside false cell k (λ p s. false_not_true (is_some (first_weak_point cell)) ((weak_point_is_found_spec cell (are_half_spaces cell k)).some.1 (p, s)) e)

-- a cell without a member
pub shows_empty : (cell : List HalfSpace) → AreKeptHalfSpaces cell → IsEmpty (shape_of_cell cell) → ShowsOutside true cell
shows_empty cell k e = shows_outside true cell k (λ p s. e p (strict_solution_is_member_spec cell p s))

-- ---- strict tests

-- the line of a strict test: it shows what the search found, and may be written
pub data StrictShown (cell : List HalfSpace) : Bool → ProofLine → Type 0 where
  inside : (points : List RationalPoint) → is_inside_certificate cell points ≡ true → StrictShown cell true (in_line points)
  outside : (terms : List Multiple) → is_outside_certificate true cell terms ≡ true → StrictShown cell false (out_line terms)

-- the line of a strict test shows what was found, and may be written
pub record StrictLine (cell : List HalfSpace) : Type 0 where
  pub shown : StrictShown cell (has_member cell) (strict_line cell)
  pub written : is_written (strict_line cell) ≡ true

-- so it is for kept cells
pub strict_shown : (cell : List HalfSpace) → AreKeptHalfSpaces cell → StrictLine cell
unfolding has_member strict_line is_written
strict_shown cell k = here (first_inside cell) refl
  where
    points_written : (points : List RationalPoint) → first_inside cell ≡ Some points → is_inside_certificate cell points ≡ true → (is_one_to_four (length points) && list_all is_written_point points) ≡ true
    points_written points e c = and_true _ _ (and_first (is_one_to_four (length points)) _ c) (list_all_true is_written_point IsKeptPoint point_written points (inside_kept cell (are_half_spaces cell k) points e))

    here : (o : Option (List RationalPoint)) → first_inside cell ≡ o → StrictLine cell
    here None e =
        let n = shows_no_member cell k (ap is_some e) in
        record {
          shown = subst (λ o. StrictShown cell (is_some o) (elim o as (λ _. ProofLine) [ Some points ↦ in_line points | None ↦ out_line (outside_terms true cell) ])) (sym e) (outside (outside_terms true cell) n.passes);
          written = ap (λ (o : Option (List RationalPoint)). is_written (elim o as (λ _. ProofLine) [ Some points ↦ in_line points | None ↦ out_line (outside_terms true cell) ])) e ∙ n.written;
        }
    here (Some points) e =
        let c : is_inside_certificate cell points ≡ true = subst (λ o. IfSome o (λ ps. is_inside_certificate cell ps ≡ true)) e (inside_is_found_spec cell (are_half_spaces cell k)).passes in
        record {
          shown = subst (λ o. StrictShown cell (is_some o) (elim o as (λ _. ProofLine) [ Some points ↦ in_line points | None ↦ out_line (outside_terms true cell) ])) (sym e) (inside points c);
          written = ap (λ (o : Option (List RationalPoint)). is_written (elim o as (λ _. ProofLine) [ Some points ↦ in_line points | None ↦ out_line (outside_terms true cell) ])) e ∙ points_written points e c;
        }

-- ---- weak tests

-- the line of a weak test: it shows what the search found
pub data WeakShown (cell : List HalfSpace) : Bool → ProofLine → Type 0 where
  meets : (p : RationalPoint) → is_weak_point cell p ≡ true → WeakShown cell true (at_line p)
  apart : (terms : List Multiple) → is_outside_certificate false cell terms ≡ true → WeakShown cell false (apart_line terms)

-- it shows what was found, and may be written
pub record WeakLine (cell : List HalfSpace) : Type 0 where
  pub shown : WeakShown cell (has_weak_point cell) (weak_line cell)
  pub written : is_written (weak_line cell) ≡ true

-- so it is for kept cells
pub weak_shown : (cell : List HalfSpace) → AreKeptHalfSpaces cell → WeakLine cell
unfolding has_weak_point weak_line is_written
weak_shown cell k = here (first_weak_point cell) refl
  where
    here : (o : Option RationalPoint) → first_weak_point cell ≡ o → WeakLine cell
    here None e =
        let n = shows_no_weak_point cell k (ap is_some e) in
        record {
          shown = subst (λ o. WeakShown cell (is_some o) (elim o as (λ _. ProofLine) [ Some p ↦ at_line p | None ↦ apart_line (outside_terms false cell) ])) (sym e) (apart (outside_terms false cell) n.passes);
          written = ap (λ (o : Option RationalPoint). is_written (elim o as (λ _. ProofLine) [ Some p ↦ at_line p | None ↦ apart_line (outside_terms false cell) ])) e ∙ n.written;
        }
    here (Some p) e =
        let c = subst (λ o. IfSome o (λ q. IsPoint q × (is_weak_point cell q ≡ true))) e (weak_point_is_found_spec cell (are_half_spaces cell k)).passes in
        record {
          shown = subst (λ o. WeakShown cell (is_some o) (elim o as (λ _. ProofLine) [ Some p ↦ at_line p | None ↦ apart_line (outside_terms false cell) ])) (sym e) (meets p c.1);
          written = ap (λ (o : Option RationalPoint). is_written (elim o as (λ _. ProofLine) [ Some p ↦ at_line p | None ↦ apart_line (outside_terms false cell) ])) e ∙ point_written p (weak_point_kept cell (are_half_spaces cell k) p e);
        }
