-- A refutation by the last half-space with at most one other is the first of all, where the others have a solution.
use Rattle.std.proofs.Common.{◌≡◌, Bool, List, [], ◌∷◌, ◌++◌, append-nil, Option, Some, None, refl, sym, ap, ◌∙◌, subst}
use Rattle.rp_algebra.proofs.Listed.{all_append}
use Rattle.rp_algebra.proofs.Options.{or_else}
use Rattle.rp_geometry.specs.Geometry.{RationalPoint, HalfSpace, IsHalfSpace, cube_half_spaces}
use Rattle.rp_geometry.specs.laws.CellLaws.{AreHalfSpaces, IsSolution}
use Rattle.rp_geometry.specs.searches.Certificate.{Multiple}
use Rattle.rp_geometry.specs.searches.Search.{first_of, first_of_pairs, first_of_triples}
use Rattle.rp_geometry.specs.searches.Elimination.{refutation_of_one, refutation_of_two, refutation_of_three, refutation_of_four, first_outside}
use Rattle.rp_elim.specs.FewTerms.{first_with_last}
use Rattle.rp_elim.specs.HeldFast.{placed_list, two_in_order, three_in_order, four_in_order}
use Rattle.rp_elim.proofs.FewTerms.{first_of_three}
use Rattle.rp_elim.proofs.InPlace.{behind_one, first_with_others}

-- three answers, one after the other
or_else_grouped : {B : Type 0} (a b c : Option B) → or_else a (or_else b c) ≡ or_else (or_else a b) c
or_else_grouped (Some y) b c = refl
or_else_grouped None b c = refl

-- a search with one half-space and each of those round it: those before it, and then those behind it
round_one : {B : Type 0} (f : HalfSpace → HalfSpace → Option B) (xs : List HalfSpace) (k : HalfSpace) (ys : List HalfSpace)
    → first_of (two_in_order f k) (placed_list xs ys) ≡ or_else (first_of (λ g. f g k) xs) (first_of (f k) ys)
round_one f [] k ys = behind_one (two_in_order f k) ys
round_one f (x ∷ xs) k ys = ap (λ o. or_else (f x k) o) (round_one f xs k ys) ∙ or_else_grouped (f x k) (first_of (λ g. f g k) xs) (first_of (f k) ys)

-- what is found with the last half-space is the first certificate
pub last_is_first : (strict : Bool) (others : List HalfSpace) (last : HalfSpace) → AreHalfSpaces others → ((p : RationalPoint) × IsSolution strict others p) → (terms : List Multiple)
    → first_with_last strict others last ≡ Some terms → first_outside strict (others ++ last ∷ []) ≡ Some terms
last_is_first strict others last bounds s terms e =
    let places = placed_list others cube_half_spaces in
    let two = first_of (two_in_order (refutation_of_two strict) last) places in
    let more = or_else (first_of_pairs (three_in_order (refutation_of_three strict) last) places) (first_of_triples (four_in_order (refutation_of_four strict) last) places) in
    let found : or_else (refutation_of_one strict last) two ≡ Some terms = ap (λ o. or_else (refutation_of_one strict last) o) (round_one (refutation_of_two strict) others last cube_half_spaces) ∙ e in
    first_with_others strict others last [] (all_append IsHalfSpace others [] bounds tt) (subst (λ (hs : List HalfSpace). (p : RationalPoint) × IsSolution strict hs p) (sym (append-nil others)) s)
    ∙ first_of_three (refutation_of_one strict last) two more terms found
