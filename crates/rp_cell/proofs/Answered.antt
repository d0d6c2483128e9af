-- What the searches that a decision calls have found, and that one of them always finds something.
use Rattle.std.proofs.Common.{◌≡◌, true, false, List, ◌∷◌, Option, Some, None, refl, sym, ap, ◌∙◌, subst}
use Rattle.std.specs.Prelude.{◌↔◌, IsSome, IsNone, IfSome, IsTrue, unwrap_or, []}
use Rattle.rp_algebra.proofs.Options.{of_some}
use Rattle.rp_algebra.specs.Integer.{is_positive, is_nonnegative}
use Rattle.rp_algebra.proofs.IntLaws.{nonneg_of_pos_ℤ}
use Rattle.rp_algebra.proofs.Tests.{and_first, and_second, and_true, positive_is, is_nonnegative_true}
use Rattle.rp_geometry.specs.Geometry.{RationalPoint, HalfSpace, side_value, all_positive, all_nonnegative, with_cube}
use Rattle.rp_geometry.specs.sets.Shape.{shape_of_cell}
use Rattle.rp_geometry.specs.sets.Sets.{IsEmpty, IsNonempty}
use Rattle.rp_geometry.specs.searches.Certificate.{Multiple, is_inside_certificate}
use Rattle.rp_geometry.specs.searches.Vertex.{first_inside, first_weak_point}
use Rattle.rp_geometry.specs.searches.Elimination.{first_outside}
use Rattle.rp_geometry.specs.searches.ProofLine.{strict_line, weak_line, in_line, out_line, at_line, apart_line}
use Rattle.rp_geometry.specs.laws.CellLaws.{AreHalfSpaces, IsSolution}
use Rattle.rp_convex.proofs.Certified.{strict_solution_is_member_spec, inside_certificate_shows_member_spec}
use Rattle.rp_convex.proofs.Inside.{member_moves_inside_spec}
use Rattle.rp_convex.proofs.InsideFound.{inside_is_found_spec}
use Rattle.rp_convex.proofs.WeakPoint.{weak_point_is_found_spec}

-- what follows of an answer that is some
pub if_some : {A : Type 0} (P Q : A → Type 0) (o : Option A) → ((x : A) → o ≡ Some x → P x → Q x) → IfSome o P → IfSome o Q
if_some P Q (Some x) f h = f x refl h
if_some P Q None f h = h

-- an answer that is not none is some
some_unless : {A : Type 0} (o : Option A) → (IsNone o → ⊥) → IsSome o
some_unless (Some x) n = refl
some_unless None n = absurd (n refl)

-- an answer that is not some is none
pub none_unless : {A : Type 0} (o : Option A) → (IsSome o → ⊥) → o ≡ None
none_unless (Some x) n = absurd (n refl)
none_unless None n = refl

-- where a cell has no member, an outside certificate is found
pub outside_is_some : (cell : List HalfSpace) (o : Option (List Multiple)) → (IsNone o ↔ ((p : RationalPoint) × IsSolution true cell p)) → IsEmpty (shape_of_cell cell) → IsSome o
outside_is_some cell o none empty = some_unless o (λ e. let s = none.0 e in empty s.0 (strict_solution_is_member_spec cell s.0 s.1))

-- where the weak system has no point, an outside certificate of it is found
pub apart_is_some : (cell : List HalfSpace) (o : Option (List Multiple)) → (IsNone o ↔ ((p : RationalPoint) × IsSolution false cell p)) → ((p : RationalPoint) → ¬ IsSolution false cell p) → IsSome o
apart_is_some cell o none empty = some_unless o (λ e. let s = none.0 e in empty s.0 s.1)

-- the line of a strict test where an inside certificate is found
pub line_inside : (cell : List HalfSpace) (points : List RationalPoint) → first_inside cell ≡ Some points → in_line points ≡ strict_line cell
unfolding strict_line
line_inside cell points e = sym (ap (λ (o : Option (List RationalPoint)). elim o [ Some ps ↦ in_line ps | None ↦ out_line (unwrap_or (first_outside true cell) []) ]) e)

-- the line of a strict test where none is found
pub line_outside : (cell : List HalfSpace) (terms : List Multiple) → first_inside cell ≡ None → first_outside true cell ≡ Some terms → out_line terms ≡ strict_line cell
unfolding strict_line
line_outside cell terms e f =
    sym
    (ap (λ (o : Option (List RationalPoint)). elim o [ Some ps ↦ in_line ps | None ↦ out_line (unwrap_or (first_outside true cell) []) ]) e
    ∙ ap (λ (o : Option (List Multiple)). out_line (unwrap_or o [])) f)

-- the line of a weak test where a weak point is found
pub line_at : (cell : List HalfSpace) (p : RationalPoint) → first_weak_point cell ≡ Some p → at_line p ≡ weak_line cell
unfolding weak_line
line_at cell p e = sym (ap (λ (o : Option RationalPoint). elim o [ Some q ↦ at_line q | None ↦ apart_line (unwrap_or (first_outside false cell) []) ]) e)

-- the line of a weak test where none is found
pub line_apart : (cell : List HalfSpace) (terms : List Multiple) → first_weak_point cell ≡ None → first_outside false cell ≡ Some terms → apart_line terms ≡ weak_line cell
unfolding weak_line
line_apart cell terms e f =
    sym
    (ap (λ (o : Option RationalPoint). elim o [ Some q ↦ at_line q | None ↦ apart_line (unwrap_or (first_outside false cell) []) ]) e
    ∙ ap (λ (o : Option (List Multiple)). apart_line (unwrap_or o [])) f)

-- a strict decision by points
pub decided_inside : (cell same : List HalfSpace) (o : Option (List RationalPoint)) (points : List RationalPoint) → same ≡ cell → o ≡ first_inside same → IfSome o (λ ps. IsTrue (is_inside_certificate same ps)) → o ≡ Some points
    → (first_inside cell ≡ Some points) × IsTrue (is_inside_certificate cell points) × IsNonempty (shape_of_cell cell)
decided_inside cell same o points e f k s =
    let passes = subst (λ (hs : List HalfSpace). IsTrue (is_inside_certificate hs points)) e (of_some (λ ps. IsTrue (is_inside_certificate same ps)) o points s k) in
    (sym (f ∙ ap first_inside e) ∙ s, passes, inside_certificate_shows_member_spec cell points passes)

-- where all half-spaces are positive none is negative
nonnegative_where_positive : (hs : List HalfSpace) (p : RationalPoint) → IsTrue (all_positive hs p) → IsTrue (all_nonnegative hs p)
nonnegative_where_positive [] p e = refl
nonnegative_where_positive (h ∷ hs) p e =
    and_true (is_nonnegative (side_value h p)) (all_nonnegative hs p)
    (is_nonnegative_true (side_value h p) (nonneg_of_pos_ℤ (side_value h p) (positive_is (side_value h p) (and_first (is_positive (side_value h p)) (all_positive hs p) e))))
    (nonnegative_where_positive hs p (and_second (is_positive (side_value h p)) (all_positive hs p) e))

-- a cell without a strict solution has no member
pub empty_without_solution : (cell : List HalfSpace) → AreHalfSpaces cell → ((p : RationalPoint) → ¬ IsSolution true cell p) → IsEmpty (shape_of_cell cell)
empty_without_solution cell bounds none q m = let s = member_moves_inside_spec cell bounds (q, m) in none s.0 s.1

-- the line of a strict test of a cell that is known to have no member
pub line_of_empty : (cell : List HalfSpace) (terms : List Multiple) → AreHalfSpaces cell → IsEmpty (shape_of_cell cell) → first_outside true cell ≡ Some terms → out_line terms ≡ strict_line cell
line_of_empty cell terms bounds empty first =
    line_outside cell terms (none_unless (first_inside cell) (λ s. let m = (inside_is_found_spec cell bounds).some.0 s in empty m.0 m.1)) first

-- the line of a weak test of a cell whose weak system is known to have no point
pub line_of_apart : (cell : List HalfSpace) (terms : List Multiple) → AreHalfSpaces cell → ((p : RationalPoint) → ¬ IsSolution false cell p) → first_outside false cell ≡ Some terms
    → apart_line terms ≡ weak_line cell
line_of_apart cell terms bounds none first =
    line_apart cell terms (none_unless (first_weak_point cell) (λ s. let m = (weak_point_is_found_spec cell bounds).some.0 s in none m.0 m.1)) first

-- a cell with a member has a solution of its weak system too
pub weak_solution_of : (cell : List HalfSpace) → AreHalfSpaces cell → IsNonempty (shape_of_cell cell) → (p : RationalPoint) × IsSolution false cell p
weak_solution_of cell bounds some =
    let s = member_moves_inside_spec cell bounds some in
    (s.0, (s.1.0, nonnegative_where_positive (with_cube cell) s.0 s.1.1))
