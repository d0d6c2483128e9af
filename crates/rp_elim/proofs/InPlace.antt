-- Searches among all sets, where those without one half-space miss: the sets with it are left, in the order of the others' places.
use Rattle.std.proofs.Common.{◌≡◌, Bool, false, List, [], ◌∷◌, ◌++◌, map, Option, Some, None, refl, sym, ap, ◌∙◌, append_assoc}
use Rattle.std.specs.Prelude.{IsNone}
use Rattle.rp_algebra.proofs.Options.{or_else, or_else_none}
use Rattle.rp_geometry.specs.Geometry.{RationalPoint, HalfSpace, with_cube, cube_half_spaces}
use Rattle.rp_geometry.specs.searches.Certificate.{Multiple}
use Rattle.rp_geometry.specs.searches.Search.{first_of, first_of_pairs, first_of_triples, first_of_quadruples}
use Rattle.rp_geometry.specs.searches.Elimination.{refutation_of_one, refutation_of_two, refutation_of_three, refutation_of_four, first_refutation, first_outside}
use Rattle.rp_geometry.specs.laws.CellLaws.{AreHalfSpaces, IsSolution}
use Rattle.rp_elim.specs.declared.placed.Placed.{Placed}
use Rattle.rp_elim.specs.HeldFast.{placed_at, placed_list, two_in_order, three_in_order, four_in_order, first_through}
use Rattle.rp_elim.proofs.Found.{none_where_solution}

module _ {B : Type 0} where
  -- one answer, or else none
  or_none : (o : Option B) → or_else o None ≡ o
  or_none (Some y) = refl
  or_none None = refl

  -- ---- the half-spaces behind
  -- a search of them
  pub behind_one : (f : Placed → Option B) (ys : List HalfSpace) → first_of f (map (placed_at false) ys) ≡ first_of (λ h. f (placed_at false h)) ys
  behind_one f [] = refl
  behind_one f (y ∷ ys) = ap (λ o. or_else (f (placed_at false y)) o) (behind_one f ys)

  -- of their pairs
  behind_two : (f : Placed → Placed → Option B) (ys : List HalfSpace) → first_of_pairs f (map (placed_at false) ys) ≡ first_of_pairs (λ g h. f (placed_at false g) (placed_at false h)) ys
  behind_two f [] = refl
  behind_two f (y ∷ ys) = λ i. or_else (behind_one (f (placed_at false y)) ys i) (behind_two f ys i)

  -- of their triples
  behind_three : (f : Placed → Placed → Placed → Option B) (ys : List HalfSpace) → first_of_triples f (map (placed_at false) ys) ≡ first_of_triples (λ e g h. f (placed_at false e) (placed_at false g) (placed_at false h)) ys
  behind_three f [] = refl
  behind_three f (y ∷ ys) = λ i. or_else (behind_two (f (placed_at false y)) ys i) (behind_three f ys i)

  -- ---- what is left of each search where the sets without k miss
  -- of the half-spaces, k
  through_one : (f : HalfSpace → Option B) (xs : List HalfSpace) (k : HalfSpace) (ys : List HalfSpace) → first_of f (xs ++ ys) ≡ None → first_of f (xs ++ k ∷ ys) ≡ f k
  through_one f [] k ys e = (λ i. or_else (f k) (e i)) ∙ or_none (f k)
  through_one f (x ∷ xs) k ys e =
      let s = or_else_none (f x) (first_of f (xs ++ ys)) e in
      (λ i. or_else (s.0 i) (first_of f (xs ++ k ∷ ys))) ∙ through_one f xs k ys s.1

  -- of the pairs, k with each other one
  through_two : (f : HalfSpace → HalfSpace → Option B) (xs : List HalfSpace) (k : HalfSpace) (ys : List HalfSpace) → first_of_pairs f (xs ++ ys) ≡ None
      → first_of_pairs f (xs ++ k ∷ ys) ≡ first_of (two_in_order f k) (placed_list xs ys)
  through_two f [] k ys e =
      (λ i. or_else (first_of (f k) ys) (e i)) ∙ or_none (first_of (f k) ys) ∙ sym (behind_one (two_in_order f k) ys)
  through_two f (x ∷ xs) k ys e =
      let s = or_else_none (first_of (f x) (xs ++ ys)) (first_of_pairs f (xs ++ ys)) e in
      λ i. or_else (through_one (f x) xs k ys s.0 i) (through_two f xs k ys s.1 i)

  -- of the triples, k with each pair of the others
  through_three : (f : HalfSpace → HalfSpace → HalfSpace → Option B) (xs : List HalfSpace) (k : HalfSpace) (ys : List HalfSpace) → first_of_triples f (xs ++ ys) ≡ None
      → first_of_triples f (xs ++ k ∷ ys) ≡ first_of_pairs (three_in_order f k) (placed_list xs ys)
  through_three f [] k ys e =
      (λ i. or_else (first_of_pairs (f k) ys) (e i)) ∙ or_none (first_of_pairs (f k) ys) ∙ sym (behind_two (three_in_order f k) ys)
  through_three f (x ∷ xs) k ys e =
      let s = or_else_none (first_of_pairs (f x) (xs ++ ys)) (first_of_triples f (xs ++ ys)) e in
      λ i. or_else (through_two (f x) xs k ys s.0 i) (through_three f xs k ys s.1 i)

  -- of the quadruples, k with each triple of the others
  through_four : (f : HalfSpace → HalfSpace → HalfSpace → HalfSpace → Option B) (xs : List HalfSpace) (k : HalfSpace) (ys : List HalfSpace) → first_of_quadruples f (xs ++ ys) ≡ None
      → first_of_quadruples f (xs ++ k ∷ ys) ≡ first_of_triples (four_in_order f k) (placed_list xs ys)
  through_four f [] k ys e =
      (λ i. or_else (first_of_triples (f k) ys) (e i)) ∙ or_none (first_of_triples (f k) ys) ∙ sym (behind_three (four_in_order f k) ys)
  through_four f (x ∷ xs) k ys e =
      let s = or_else_none (first_of_triples (f x) (xs ++ ys)) (first_of_quadruples f (xs ++ ys)) e in
      λ i. or_else (through_three (f x) xs k ys s.0 i) (through_four f xs k ys s.1 i)

-- ---- the whole search
-- the first refutation of a list is the first one through k, where there is none without it
through_all : (strict : Bool) (xs : List HalfSpace) (k : HalfSpace) (ys : List HalfSpace) → first_refutation strict (xs ++ ys) ≡ None
    → first_refutation strict (xs ++ k ∷ ys) ≡ first_through strict k (placed_list xs ys)
through_all strict xs k ys e =
    let hs = xs ++ ys in
    let fours = first_of_quadruples (refutation_of_four strict) hs in
    let threes = or_else (first_of_triples (refutation_of_three strict) hs) fours in
    let r = or_else_none (first_of (refutation_of_one strict) hs) (or_else (first_of_pairs (refutation_of_two strict) hs) threes) e in
    let s = or_else_none (first_of_pairs (refutation_of_two strict) hs) threes r.1 in
    let t = or_else_none (first_of_triples (refutation_of_three strict) hs) fours s.1 in
    λ i. or_else (through_one (refutation_of_one strict) xs k ys r.0 i)
    (or_else (through_two (refutation_of_two strict) xs k ys s.0 i)
    (or_else (through_three (refutation_of_three strict) xs k ys t.0 i) (through_four (refutation_of_four strict) xs k ys t.1 i)))

-- none is none
pub is_none : (o : Option (List Multiple)) → IsNone o → o ≡ None
is_none None e = refl
is_none (Some terms) e = absurd (cc)

-- the first outside certificate of a cell is the first one through k, where the others have a solution
pub first_with_others : (strict : Bool) (before : List HalfSpace) (k : HalfSpace) (after : List HalfSpace) → AreHalfSpaces (before ++ after) → ((p : RationalPoint) × IsSolution strict (before ++ after) p)
    → first_outside strict (before ++ k ∷ after) ≡ first_through strict k (placed_list before (with_cube after))
unfolding first_outside
first_with_others strict before k after bounds s =
    let none = is_none (first_outside strict (before ++ after)) ((none_where_solution strict (before ++ after) bounds (first_outside strict (before ++ after)) refl).1 s) in
    (λ i. first_refutation strict (append_assoc before (k ∷ after) cube_half_spaces i))
    ∙ through_all strict before k (with_cube after) ((λ i. first_refutation strict (sym (append_assoc before after cube_half_spaces) i)) ∙ none)
