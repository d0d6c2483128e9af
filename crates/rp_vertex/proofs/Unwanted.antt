-- No vertex is wanted on planes that are all that is to be lifted, and none is on a plane that a half-space cuts off.
use Rattle.std.proofs.Common.{◌≡◌, pos, Bool, true, false, ◌||◌, List, [], ◌∷◌, ⊎_elim, refl, sym, ap, ◌∙◌}
use Rattle.std.specs.Prelude.{Option, Some, None}
use Rattle.std.proofs.lemmas.Bool.{or_cases}
use Rattle.rp_algebra.specs.Integer.{is_positive}
use Rattle.rp_algebra.proofs.Numbers.{nonpos_of_zero}
use Rattle.rp_algebra.proofs.Tests.{and_first, and_second, false_not_true, is_positive_false}
use Rattle.rp_convex.proofs.Tests.{half_space_eq-to}
use Rattle.rp_geometry.specs.Geometry.{RationalPoint, HalfSpace, half_space_eq, side_value}
use Rattle.rp_geometry.specs.searches.Search.{first_of, first_of_pairs}
use Rattle.rp_geometry.specs.searches.Vertex.{lifts, meeting_point, vertex_at}
use Rattle.rp_convex.proofs.Corners.{IsMeeting, meeting_is, passed_choice}
use Rattle.rp_vertex.specs.Parallel.{cuts_off, is_cut_off}
use Rattle.rp_vertex.specs.Wanted.{are_among, is_wanted, lie_within}
use Rattle.rp_vertex.specs.declared.search.Wanted.{Wanted}
use Rattle.rp_vertex.specs.declared.search.Wanted.TheVariants.{Any, Lifting}
use Rattle.rp_vertex.proofs.CutOff.{no_vertex_on, some_passes}

-- a half-space that is one of two is not positive where both are 0
not_positive : (h f g : HalfSpace) (v : RationalPoint) → (half_space_eq h f || half_space_eq h g) ≡ true → side_value f v ≡ pos 0 → side_value g v ≡ pos 0 → is_positive (side_value h v) ≡ false
not_positive h f g v e ef eg =
    ⊎_elim
    (λ (s : half_space_eq h f ≡ true). is_positive_false (side_value h v) (nonpos_of_zero (side_value h v) (ap (λ (k : HalfSpace). side_value k v) (sym (half_space_eq-to h f s)) ∙ ef)))
    (λ (s : half_space_eq h g ≡ true). is_positive_false (side_value h v) (nonpos_of_zero (side_value h v) (ap (λ (k : HalfSpace). side_value k v) (sym (half_space_eq-to h g s)) ∙ eg)))
    (or_cases (half_space_eq h f) (half_space_eq h g) e)

-- none of those is
not_lifted : (hs : List HalfSpace) (f g : HalfSpace) (v : RationalPoint) → are_among hs f g ≡ true → side_value f v ≡ pos 0 → side_value g v ≡ pos 0 → lifts hs v ≡ false
not_lifted [] f g v e ef eg = refl
not_lifted (h ∷ hs) f g v e ef eg =
    let a = not_positive h f g v (and_first (half_space_eq h f || half_space_eq h g) (are_among hs f g) e) ef eg in
    let b = not_lifted hs f g v (and_second (half_space_eq h f || half_space_eq h g) (are_among hs f g) e) ef eg in
    λ i. a i || b i

-- a point on two planes that are all that is to be lifted is not wanted
not_wanted : (w : Wanted) (f g : HalfSpace) (v : RationalPoint) → lie_within w f g ≡ true → side_value f v ≡ pos 0 → side_value g v ≡ pos 0 → is_wanted w v ≡ false
not_wanted Any f g v e ef eg = absurd (false_not_true false e refl)
not_wanted (Lifting flat) f g v e ef eg = not_lifted flat.now f g v e ef eg

-- three planes of which no meeting point is wanted have no wanted vertex
none_at : (test : RationalPoint → Bool) (system : List HalfSpace) (f g h : HalfSpace) → ((v : RationalPoint) → IsMeeting f g h v → test v ≡ false) → vertex_at test system f g h ≡ None
none_at test system f g h fails = by_answer (vertex_at test system f g h) refl
  where
    by_answer : (o : Option RationalPoint) → vertex_at test system f g h ≡ o → vertex_at test system f g h ≡ None
    by_answer None e = e
    by_answer (Some v) e =
        let p = passed_choice test system (meeting_point f g h) v e in
        absurd (false_not_true (test v) p.passes (fails v (meeting_is f g h v p.is)))

-- where no item gives an answer there is no first one
none_of : {A B : Type 0} (F : A → Option B) (xs : List A) → ((x : A) → F x ≡ None) → first_of F xs ≡ None
none_of F [] n = refl
none_of F (x ∷ xs) n = (λ i. elim (n x i) [ Some y ↦ Some y | None ↦ first_of F xs ]) ∙ none_of F xs n

-- where no two items give one there is no first one
none_of_pairs : {A B : Type 0} (F : A → A → Option B) (xs : List A) → ((x y : A) → F x y ≡ None) → first_of_pairs F xs ≡ None
none_of_pairs F [] n = refl
none_of_pairs F (x ∷ xs) n = (λ i. elim (none_of (F x) xs (n x) i) [ Some y ↦ Some y | None ↦ first_of_pairs F xs ]) ∙ none_of_pairs F xs n

-- two planes that are all that is to be lifted have no wanted vertex with a third
pub none_with_two : (w : Wanted) (system : List HalfSpace) (f g : HalfSpace) (others : List HalfSpace) → lie_within w f g ≡ true → first_of (vertex_at (is_wanted w) system f g) others ≡ None
none_with_two w system f g others e =
    none_of (vertex_at (is_wanted w) system f g) others (λ h. none_at (is_wanted w) system f g h (λ v m. not_wanted w f g v e m.tight.first m.tight.second))

-- one plane that is all that is to be lifted has none with two others
pub none_with_one : (w : Wanted) (system : List HalfSpace) (f : HalfSpace) (others : List HalfSpace) → lie_within w f f ≡ true → first_of_pairs (vertex_at (is_wanted w) system f) others ≡ None
none_with_one w system f others e =
    none_of_pairs (vertex_at (is_wanted w) system f) others (λ g h. none_at (is_wanted w) system f g h (λ v m. not_wanted w f f v e m.tight.first m.tight.first))

-- a plane that a half-space of the list cuts off has no vertex with two others
pub none_cut_off : (w : Wanted) (system : List HalfSpace) (f : HalfSpace) (others : List HalfSpace) → is_cut_off system f ≡ true → first_of_pairs (vertex_at (is_wanted w) system f) others ≡ None
none_cut_off w system f others e =
    let k = some_passes (cuts_off f) system e in
    none_of_pairs (vertex_at (is_wanted w) system f) others (λ g h. no_vertex_on (is_wanted w) system f g h k.item k.listed k.passes)
