-- The refutation of a cell through one of its half-spaces.
use Rattle.std.proofs.Common.{◌≡◌, ℕ, ◌+◌, ◌-◌, ◌<◌, ⊎_elim, true, false, List, [], ◌∷◌, ◌++◌, length, get_or, take, drop, append_assoc, sym, ap, ◌∙◌, subst, arith, le_of_lt}
use Rattle.std.specs.Prelude.{Option, Some, None, IsNone, IsSome, IfSome, IsTrue, ◌↔◌}
use Rattle.std.proofs.Math.ListN.{drop_of_length-le}
use Rattle.std.proofs.Math.Seq.{take-append-add, take-append_seam}
use Rattle.std.proofs.lemmas.List.{length-take-le, take-append-drop}
use Rattle.rp_geometry.specs.Geometry.{RationalPoint, HalfSpace, IsHalfSpace}
use Rattle.rp_geometry.specs.sets.Shape.{shape_of_cell}
use Rattle.rp_geometry.specs.sets.Sets.{IsEmpty}
use Rattle.rp_geometry.specs.laws.CellLaws.{AreHalfSpaces, IsSolution}
use Rattle.rp_geometry.specs.searches.Certificate.{Multiple, is_outside_certificate}
use Rattle.rp_geometry.specs.searches.Elimination.{first_outside}
use Rattle.rp_geometry.specs.searches.ProofLine.{out_line, apart_line, strict_line, weak_line}
use Rattle.rp_algebra.proofs.Listed.{all_of, of_all, listed_cases}
use Rattle.rp_algebra.proofs.Lists.{drop_item}
use Rattle.rp_algebra.proofs.Options.{of_some}
use Rattle.rp_convex.proofs.InsideFound.{inside_is_found_spec}
use Rattle.rp_convex.proofs.WeakPoint.{weak_point_is_found_spec}
use Rattle.rp_cell.proofs.Answered.{none_unless, outside_is_some, apart_is_some, line_outside, line_apart, empty_without_solution, line_of_empty}
use Rattle.rp_cell.proofs.Dropped.{of_front, of_rest}
use Rattle.rp_cell.proofs.SlimSoFar.{slice_is}

-- a list is what stands before a place, the item there, and what stands behind it
split_at : (cell : List HalfSpace) (i : ℕ) (h : HalfSpace) → i < length cell → h ≡ get_or cell i h → take i cell ++ h ∷ drop (i + 1) cell ≡ cell
split_at cell i h l e = ap (λ (hs : List HalfSpace). take i cell ++ hs) (sym (drop_item cell i h l e)) ∙ take-append-drop i cell

-- the same with the slice that the code takes
pub split_is : (cell : List HalfSpace) (i : ℕ) (h : HalfSpace) → i < length cell → h ≡ get_or cell i h → take i cell ++ h ∷ take (length cell - (i + 1)) (drop (i + 1) cell) ≡ cell
split_is cell i h l e = ap (λ (hs : List HalfSpace). take i cell ++ h ∷ hs) (slice_is cell (i + 1)) ∙ split_at cell i h l e

-- ---- no point

-- what the search through a half-space has found of a list that is the cell
pub record IsRefuted (cell : List HalfSpace) (terms : List Multiple) : Type 0 where
  pub first : first_outside true cell ≡ Some terms
  pub passes : IsTrue (is_outside_certificate true cell terms)
  pub line : out_line terms ≡ strict_line cell

-- in an empty cell something is found
pub refuted_some : (cell list : List HalfSpace) (o : Option (List Multiple)) → list ≡ cell → (IsNone o ↔ ((p : RationalPoint) × IsSolution true list p)) → IsEmpty (shape_of_cell cell) → IsSome o
refuted_some cell list o e none empty = outside_is_some list o none (subst (λ (hs : List HalfSpace). IsEmpty (shape_of_cell hs)) (sym e) empty)

-- and it is the first refutation of the cell
pub refuted : (cell list : List HalfSpace) (o : Option (List Multiple)) (terms : List Multiple) → AreHalfSpaces cell → IsEmpty (shape_of_cell cell) → list ≡ cell → o ≡ first_outside true list → IfSome o (λ ts. IsTrue (is_outside_certificate true list ts)) → o ≡ Some terms
    → IsRefuted cell terms
refuted cell list o terms b empty e f k s =
    let first : first_outside true cell ≡ Some terms = sym (f ∙ ap (first_outside true) e) ∙ s in
    let found = (inside_is_found_spec cell b).some in
    record {
      first = first;
      passes = subst (λ (hs : List HalfSpace). IsTrue (is_outside_certificate true hs terms)) e (of_some (λ ts. IsTrue (is_outside_certificate true list ts)) o terms s k);
      line = line_outside cell terms (none_unless _ (λ t. let m = found.0 t in empty m.0 m.1)) first;
    }

-- what the search through a half-space tells of a cell that may have a point
pub record IsFound (cell : List HalfSpace) (o : Option (List Multiple)) : Type 0 where
  pub first : IfSome o (λ terms. first_outside true cell ≡ Some terms)
  pub passes : IfSome o (λ terms. IsTrue (is_outside_certificate true cell terms))
  pub empty : IfSome o (λ _. IsEmpty (shape_of_cell cell))
  pub line : IfSome o (λ terms. out_line terms ≡ strict_line cell)

-- what it finds is the first refutation of the cell, which has no point then
pub found_through : (cell list : List HalfSpace) (o : Option (List Multiple)) → AreHalfSpaces cell → list ≡ cell → o ≡ first_outside true list → IfSome o (λ ts. IsTrue (is_outside_certificate true list ts))
    → (IsNone o ↔ ((p : RationalPoint) × IsSolution true list p)) → IsFound cell o
found_through cell list None b e f k n = record { first = k; passes = k; empty = k; line = k }
found_through cell list (Some terms) b e f k n =
    let first : first_outside true cell ≡ Some terms = sym (f ∙ ap (first_outside true) e) in
    let empty = empty_without_solution cell b (λ p s. (let none = n.1 (p, subst (λ (hs : List HalfSpace). IsSolution true hs p) (sym e) s) in absurd (cc))) in
    record {
      first = first;
      passes = subst (λ (hs : List HalfSpace). IsTrue (is_outside_certificate true hs terms)) e k;
      empty = empty;
      line = line_of_empty cell terms b empty first;
    }

-- a list behind another is what stands before a place of it, the item there, and what stands behind it
pub split_behind : (first more : List HalfSpace) (i : ℕ) (h : HalfSpace) → i < length more → h ≡ get_or more i h → (first ++ take i more) ++ h ∷ take (length more - (i + 1)) (drop (i + 1) more) ≡ first ++ more
split_behind first more i h l e = append_assoc first (take i more) (h ∷ take (length more - (i + 1)) (drop (i + 1) more)) ∙ ap (λ (hs : List HalfSpace). first ++ hs) (split_is more i h l e)

-- the others keep their bounds
pub others_bounds : (cell : List HalfSpace) (i : ℕ) → AreHalfSpaces cell → AreHalfSpaces (take i cell ++ drop (i + 1) cell)
others_bounds cell i b = of_all IsHalfSpace (take i cell ++ drop (i + 1) cell) (λ g l. all_of IsHalfSpace cell b g (⊎_elim (of_front i cell g) (of_rest (i + 1) cell g) (listed_cases g (take i cell) (drop (i + 1) cell) l)))

-- ---- no point of the weak system

-- what the search has found of the weak system
pub record IsApart (cell : List HalfSpace) (terms : List Multiple) : Type 0 where
  pub first : first_outside false cell ≡ Some terms
  pub passes : IsTrue (is_outside_certificate false cell terms)
  pub line : apart_line terms ≡ weak_line cell

-- where it has no point something is found
pub apart_some : (cell list : List HalfSpace) (o : Option (List Multiple)) → list ≡ cell → (IsNone o ↔ ((p : RationalPoint) × IsSolution false list p)) → ((p : RationalPoint) → ¬ IsSolution false cell p) → IsSome o
apart_some cell list o e none empty = apart_is_some list o none (subst (λ (hs : List HalfSpace). (p : RationalPoint) → ¬ IsSolution false hs p) (sym e) empty)

-- and it is the first refutation
pub apart : (cell list : List HalfSpace) (o : Option (List Multiple)) (terms : List Multiple) → AreHalfSpaces cell → ((p : RationalPoint) → ¬ IsSolution false cell p) → list ≡ cell → o ≡ first_outside false list
    → IfSome o (λ ts. IsTrue (is_outside_certificate false list ts)) → o ≡ Some terms → IsApart cell terms
apart cell list o terms b empty e f k s =
    let first : first_outside false cell ≡ Some terms = sym (f ∙ ap (first_outside false) e) ∙ s in
    let found = (weak_point_is_found_spec cell b).some in
    record {
      first = first;
      passes = subst (λ (hs : List HalfSpace). IsTrue (is_outside_certificate false hs terms)) e (of_some (λ ts. IsTrue (is_outside_certificate false list ts)) o terms s k);
      line = line_apart cell terms (none_unless _ (λ t. let m = found.0 t in empty m.0 m.1)) first;
    }

-- a list is what stands before its last item, and that one
pub last_is : (cell : List HalfSpace) (h : HalfSpace) → 0 < length cell → h ≡ get_or cell (length cell - 1) h → take (length cell - 1) cell ++ h ∷ [] ≡ cell
last_is cell h l e =
    ap (λ (hs : List HalfSpace). take (length cell - 1) cell ++ h ∷ hs) (sym (drop_of_length-le cell {i = length cell - 1 + 1} (omega (arith, l)))) ∙ split_at cell (length cell - 1) h (omega (arith, l)) e

-- a front keeps its bounds
pub front_bounds : (cell : List HalfSpace) (i : ℕ) → AreHalfSpaces cell → AreHalfSpaces (take i cell)
front_bounds cell i b = of_all IsHalfSpace (take i cell) (λ g l. all_of IsHalfSpace cell b g (of_front i cell g l))

-- the front of a list, up to a place behind its first part
pub front_at : (first more after : List HalfSpace) (place : ℕ) → place < length more → take (length first + place) ((first ++ take place more) ++ after) ≡ first ++ take place more
front_at first more after place h =
    let long : length (take place more) ≡ place = length-take-le place more (le_of_lt h) in
    ap (take (length first + place)) (append_assoc first (take place more) after) ∙ take-append-add first (take place more ++ after) place
    ∙ ap (λ hs. first ++ hs) (ap (λ n. take n (take place more ++ after)) (sym long) ∙ take-append_seam (take place more) after)
