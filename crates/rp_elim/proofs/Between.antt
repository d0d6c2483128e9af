-- A refutation by two half-spaces of two cells together, each of which has a solution: one of the first cell, and one of the second.
use Rattle.std.proofs.Common.{◌≡◌, Bool, List, [], ◌∷◌, ◌++◌, Option, None, refl, ap, ◌∙◌, append_assoc}
use Rattle.rp_algebra.proofs.Options.{or_else, or_else_none}
use Rattle.rp_geometry.specs.Geometry.{RationalPoint, HalfSpace, with_cube, cube_half_spaces}
use Rattle.rp_geometry.specs.searches.Search.{first_of, first_of_pairs, first_of_triples, first_of_quadruples}
use Rattle.rp_geometry.specs.searches.Elimination.{refutation_of_one, refutation_of_two, refutation_of_three, refutation_of_four, first_refutation, first_outside}
use Rattle.rp_geometry.specs.laws.CellLaws.{AreHalfSpaces, IsSolution}
use Rattle.rp_elim.specs.FewTerms.{first_of_two}
use Rattle.rp_elim.proofs.Found.{none_where_solution}
use Rattle.rp_elim.proofs.InPlace.{is_none}

module _ {A B : Type 0} where
  -- behind items of which nothing comes
  past : (f : A → Option B) (xs ys : List A) → first_of f xs ≡ None → first_of f (xs ++ ys) ≡ first_of f ys
  past f [] ys e = refl
  past f (x ∷ xs) ys e =
      let s = or_else_none (f x) (first_of f xs) e in
      (λ i. or_else (s.0 i) (first_of f (xs ++ ys))) ∙ past f xs ys s.1

  -- and before such items
  before : (f : A → Option B) (xs ys : List A) → first_of f ys ≡ None → first_of f (xs ++ ys) ≡ first_of f xs
  before f [] ys e = e
  before f (x ∷ xs) ys e = ap (λ o. or_else (f x) o) (before f xs ys e)

  -- where nothing comes of two lists, nothing comes of either
  none_of : (f : A → Option B) (xs ys : List A) → first_of f (xs ++ ys) ≡ None → (first_of f xs ≡ None) × (first_of f ys ≡ None)
  none_of f [] ys e = (refl, e)
  none_of f (x ∷ xs) ys e =
      let s = or_else_none (f x) (first_of f (xs ++ ys)) e in
      let t = none_of f xs ys s.1 in
      (λ i. or_else (s.0 i) (t.0 i), t.1)

  -- the pairs of two lists, where nothing comes of either with a third one behind it
  pairs_between : (f : A → A → Option B) (xs ys zs : List A) → first_of_pairs f (xs ++ zs) ≡ None → first_of_pairs f (ys ++ zs) ≡ None
      → first_of_pairs f (xs ++ (ys ++ zs)) ≡ first_of (λ x. first_of (f x) ys) xs
  pairs_between f [] ys zs e n = n
  pairs_between f (x ∷ xs) ys zs e n =
      let s = or_else_none (first_of (f x) (xs ++ zs)) (first_of_pairs f (xs ++ zs)) e in
      let t = none_of (f x) xs zs s.0 in
      λ i. or_else ((past (f x) xs (ys ++ zs) t.0 ∙ before (f x) ys zs t.1) i) (pairs_between f xs ys zs s.1 n i)

-- where nothing refutes, neither one nor two do
few_do_not : (strict : Bool) (hs : List HalfSpace) → first_refutation strict hs ≡ None → (first_of (refutation_of_one strict) hs ≡ None) × (first_of_pairs (refutation_of_two strict) hs ≡ None)
few_do_not strict hs e =
    let threes = or_else (first_of_triples (refutation_of_three strict) hs) (first_of_quadruples (refutation_of_four strict) hs) in
    let r = or_else_none (first_of (refutation_of_one strict) hs) (or_else (first_of_pairs (refutation_of_two strict) hs) threes) e in
    (r.0, (or_else_none (first_of_pairs (refutation_of_two strict) hs) threes r.1).0)

-- so it is where there is a solution
few_of_solved : (strict : Bool) (cell : List HalfSpace) → AreHalfSpaces cell → ((p : RationalPoint) × IsSolution strict cell p)
    → (first_of (refutation_of_one strict) (with_cube cell) ≡ None) × (first_of_pairs (refutation_of_two strict) (with_cube cell) ≡ None)
unfolding first_outside
few_of_solved strict cell bounds s =
    few_do_not strict (with_cube cell) (is_none (first_outside strict cell) ((none_where_solution strict cell bounds (first_outside strict cell) refl).1 s))

-- the first refutation by at most two of two cells that have solutions
pub first_between : (strict : Bool) (first second : List HalfSpace) → AreHalfSpaces first → AreHalfSpaces second → ((p : RationalPoint) × IsSolution strict first p) → ((p : RationalPoint) × IsSolution strict second p)
    → first_of_two strict (with_cube (first ++ second)) ≡ first_of (λ g. first_of (refutation_of_two strict g) second) first
first_between strict first second b c s t =
    let m = few_of_solved strict first b s in
    let n = few_of_solved strict second c t in
    (λ i. first_of_two strict (append_assoc first second cube_half_spaces i))
    ∙ (λ i. or_else ((past (refutation_of_one strict) first (with_cube second) (none_of (refutation_of_one strict) first cube_half_spaces m.0).0 ∙ n.0) i)
    (pairs_between (refutation_of_two strict) first second cube_half_spaces m.1 n.1 i))
