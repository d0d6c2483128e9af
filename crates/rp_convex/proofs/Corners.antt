-- What the vertices of a list of half-spaces are: points of its weak system in lowest terms, on three planes that meet in one point.
use Rattle.std.proofs.Common.{◌≡◌, ℤ, pos, ◌<ℤ◌, ⊎_elim, Bool, true, false, ◌&&◌, List, [], ◌∷◌, refl, sym, ap, ◌∙◌, subst}
use Rattle.std.specs.Prelude.{Option, Some, None, filter_map}
use Rattle.std.specs.List.{Contains}
use Rattle.rp_algebra.specs.Integer.{is_zero, is_positive}
use Rattle.rp_algebra.proofs.IntLaws.{trichotomy_ℤ}
use Rattle.rp_algebra.proofs.Listed.{Listed, first, later, listed_cases}
use Rattle.rp_algebra.proofs.Numbers.{zero_or_not, neg_positive}
use Rattle.rp_algebra.proofs.Options.{none_not_some, same_some}
use Rattle.rp_algebra.proofs.Tests.{and_first, and_second, positive_is, is_zero_true, is_positive_true, false_not_true}
use Rattle.rp_geometry.specs.Geometry.{RationalPoint, HalfSpace, IsPoint, SamePlace, with_cube, all_nonnegative, reduced_point}
use Rattle.rp_geometry.specs.searches.Search.{all_of_pairs, all_of_triples}
use Rattle.rp_geometry.specs.searches.Vertex.{meeting_weight, meeting_point, normal_point, negated_point, cramer_point, vertex_at, vertex_if, any_point, vertices}
use Rattle.rp_convex.proofs.Firsts.{given_first}
use Rattle.rp_convex.proofs.Lowest.{reduced_is}
use Rattle.rp_convex.proofs.LowestOne.{lowest_terms_are_one_spec}
use Rattle.rp_convex.proofs.Meeting.{meets}
use Rattle.rp_convex.proofs.Move.{IsWeak}
use Rattle.rp_convex.proofs.OnlyOne.{no_meeting}
use Rattle.rp_convex.proofs.Reduced.{same_reduced}
use Rattle.rp_convex.proofs.Triples.{found_three}
use Rattle.rp_convex.proofs.Vertex.{weak_is, AreTightAt, tight_symmetric, tight_gives, IsVertexAt}
use Rattle.rp_convex.proofs.Standing.{listed_contains, contains_listed}

-- ---- lowest terms

-- the numbers have no common divisor but 1
abbrev pub IsLowest : RationalPoint → Type 0
IsLowest v = reduced_point v ≡ v

-- lowest terms stay
pub reduced_lowest : (p : RationalPoint) → IsPoint p → IsLowest (reduced_point p)
reduced_lowest p k = sym (lowest_terms_are_one_spec p (reduced_point p) k (reduced_is p k).point (same_reduced p k))

-- one place has one point in lowest terms
pub one_lowest : (p q : RationalPoint) → IsPoint p → IsPoint q → IsLowest p → IsLowest q → SamePlace p q → p ≡ q
one_lowest p q hp hq lp lq s = sym lp ∙ lowest_terms_are_one_spec p q hp hq s ∙ lq

-- a number other than 0 that is not above 0 has a negative above 0
negative_by_tests : (v : ℤ) → is_zero v ≡ false → is_positive v ≡ false → v <ℤ pos 0
negative_by_tests v z u =
    ⊎_elim
    (λ (l : v <ℤ pos 0). l)
    (⊎_elim
    (λ (e : v ≡ pos 0). absurd (false_not_true (is_zero v) (is_zero_true v e) z))
    (λ (g : pos 0 <ℤ v). absurd (false_not_true (is_positive v) (is_positive_true v g) u)))
    (trichotomy_ℤ v (pos 0))

-- what the choice of a point with a positive weight gives is in lowest terms
normal_lowest : (p v : RationalPoint) → normal_point p ≡ Some v → IsLowest v
normal_lowest p v e = by_tests (is_zero p.w) (is_positive p.w) refl refl e
  where
    by_tests : (z u : Bool) → is_zero p.w ≡ z → is_positive p.w ≡ u
        → elim z [ true ↦ None | false ↦ elim u [ true ↦ Some (reduced_point p) | false ↦ Some (reduced_point (negated_point p)) ] ] ≡ Some v → IsLowest v
    by_tests true u ez eu k = absurd (none_not_some v k)
    by_tests false true ez eu k = subst (λ (q : RationalPoint). IsLowest q) (same_some (reduced_point p) v k) (reduced_lowest p (positive_is p.w eu))
    by_tests false false ez eu k =
        subst (λ (q : RationalPoint). IsLowest q) (same_some (reduced_point (negated_point p)) v k) (reduced_lowest (negated_point p) (neg_positive p.w (negative_by_tests p.w ez eu)))

-- a meeting point is in lowest terms
pub meeting_lowest : (f g h : HalfSpace) (v : RationalPoint) → meeting_point f g h ≡ Some v → IsLowest v
unfolding meeting_point
meeting_lowest f g h v e = normal_lowest (cramer_point f g h) v e

-- ---- meeting points

-- what a meeting point is: the one common point of three planes, in lowest terms
pub record IsMeeting (f g h : HalfSpace) (v : RationalPoint) : Type 0 where
  pub point : IsPoint v
  pub lowest : IsLowest v
  pub tight : AreTightAt v f g h

-- a meeting point is one
pub meeting_is : (f g h : HalfSpace) (v : RationalPoint) → meeting_point f g h ≡ Some v → IsMeeting f g h v
meeting_is f g h v e =
    ⊎_elim
    (λ (z : meeting_weight f g h ≡ pos 0). absurd (none_not_some v (sym (no_meeting f g h z) ∙ e)))
    (λ (n : meeting_weight f g h ≡ pos 0 → ⊥).
    let m = meets f g h n in
    subst (λ (p : RationalPoint). IsMeeting f g h p) (same_some m.at v (sym m.is ∙ e))
    (record {
      point = m.only.0.point;
      lowest = meeting_lowest f g h m.at m.is;
      tight = record { independent = n; first = m.only.0.on_first; second = m.only.0.on_second; third = m.only.0.on_third };
    }))
    (zero_or_not (meeting_weight f g h))

-- the common point in lowest terms is the meeting point
pub is_meeting : (f g h : HalfSpace) (v : RationalPoint) → IsMeeting f g h v → meeting_point f g h ≡ Some v
is_meeting f g h v k =
    let t = k.tight in
    let m = meets f g h t.independent in
    let same = m.only.1 v (record { point = k.point; on_first = t.first; on_second = t.second; on_third = t.third }) in
    m.is ∙ ap Some (sym (one_lowest v m.at k.point m.only.0.point k.lowest (meeting_lowest f g h m.at m.is) same))

-- ---- corners

-- a point of the weak system in lowest terms, on three planes of the list that meet in one point
pub record IsCornerOf (hs : List HalfSpace) (v : RationalPoint) : Type 0 where
  pub weak : IsWeak hs v
  pub lowest : IsLowest v
  pub one : HalfSpace
  pub two : HalfSpace
  pub three : HalfSpace
  pub one_listed : Listed one hs
  pub two_listed : Listed two hs
  pub three_listed : Listed three hs
  pub tight : AreTightAt v one two three

-- an answer of one item of a list
record GivenIn {A B : Type 0} (F : A → Option B) (xs : List A) (y : B) : Type 0 where
  by : A
  listed : Listed by xs
  is : F by ≡ Some y

-- each answer of the items is given by one of them
given_one : {A B : Type 0} (F : A → Option B) (xs : List A) (y : B) → Listed y (filter_map F xs) → GivenIn F xs y
given_one F [] y l = elim l [ ]
given_one F (x ∷ xs) y l =
    ⊎_elim
    (λ e. record { by = x; listed = first; is = e })
    (λ k. let g = given_one F xs y k in record { by = g.by; listed = later g.listed; is = g.is })
    (given_first (F x) (filter_map F xs) y l)

-- an answer of two items of a list
record GivenByTwoIn {A B : Type 0} (F : A → A → Option B) (xs : List A) (y : B) : Type 0 where
  one : A
  two : A
  one_listed : Listed one xs
  two_listed : Listed two xs
  is : F one two ≡ Some y

-- each answer of the pairs is given by two of them
given_two : {A B : Type 0} (F : A → A → Option B) (xs : List A) (y : B) → Listed y (all_of_pairs F xs) → GivenByTwoIn F xs y
given_two F [] y l = elim l [ ]
given_two F (x ∷ xs) y l =
    ⊎_elim
    (λ k. let g = given_one (F x) xs y k in record { one = x; two = g.by; one_listed = first; two_listed = later g.listed; is = g.is })
    (λ k. let g = given_two F xs y k in record { one = g.one; two = g.two; one_listed = later g.one_listed; two_listed = later g.two_listed; is = g.is })
    (listed_cases y (filter_map (F x) xs) (all_of_pairs F xs) l)

-- an answer of three items of a list
pub record GivenByThreeIn {A B : Type 0} (F : A → A → A → Option B) (xs : List A) (y : B) : Type 0 where
  pub one : A
  pub two : A
  pub three : A
  pub one_listed : Listed one xs
  pub two_listed : Listed two xs
  pub three_listed : Listed three xs
  pub is : F one two three ≡ Some y

-- each answer of the triples is given by three of them
pub given_three : {A B : Type 0} (F : A → A → A → Option B) (xs : List A) (y : B) → Listed y (all_of_triples F xs) → GivenByThreeIn F xs y
given_three F [] y l = elim l [ ]
given_three F (x ∷ xs) y l =
    ⊎_elim
    (λ k.
    let g = given_two (F x) xs y k in
    record { one = x; two = g.one; three = g.two; one_listed = first; two_listed = later g.one_listed; three_listed = later g.two_listed; is = g.is })
    (λ k.
    let g = given_three F xs y k in
    record { one = g.one; two = g.two; three = g.three; one_listed = later g.one_listed; two_listed = later g.two_listed; three_listed = later g.three_listed; is = g.is })
    (listed_cases y (all_of_pairs (F x) xs) (all_of_triples F xs) l)

-- what passes the choice of a vertex
pub record PassedChoice (test : RationalPoint → Bool) (hs : List HalfSpace) (o : Option RationalPoint) (v : RationalPoint) : Type 0 where
  pub is : o ≡ Some v
  pub weak : all_nonnegative hs v ≡ true
  pub passes : test v ≡ true

-- what the choice of a vertex gives has passed
pub passed_choice : (test : RationalPoint → Bool) (hs : List HalfSpace) (o : Option RationalPoint) (v : RationalPoint) → vertex_if test hs o ≡ Some v → PassedChoice test hs o v
passed_choice test hs None v e = absurd (none_not_some v e)
passed_choice test hs (Some u) v e = by_test (all_nonnegative hs u && test u) refl e
  where
    by_test : (b : Bool) → (all_nonnegative hs u && test u) ≡ b → elim b [ true ↦ Some u | false ↦ None ] ≡ Some v → PassedChoice test hs (Some u) v
    by_test true t k =
        subst (λ (p : RationalPoint). PassedChoice test hs (Some u) p) (same_some u v k)
        (record { is = refl; weak = and_first (all_nonnegative hs u) (test u) t; passes = and_second (all_nonnegative hs u) (test u) t })
    by_test false t k = absurd (none_not_some v k)

-- the vertices of a list are its corners
pub listed_corner : (hs : List HalfSpace) (v : RationalPoint) → Listed v (all_of_triples (vertex_at any_point hs) hs) → IsCornerOf hs v
listed_corner hs v l =
    let g = given_three (vertex_at any_point hs) hs v l in
    let p = passed_choice any_point hs (meeting_point g.one g.two g.three) v g.is in
    let m = meeting_is g.one g.two g.three v p.is in
    record {
      weak = weak_is hs v m.point p.weak;
      lowest = m.lowest;
      one = g.one;
      two = g.two;
      three = g.three;
      one_listed = g.one_listed;
      two_listed = g.two_listed;
      three_listed = g.three_listed;
      tight = m.tight;
    }

-- the corners of a list are among its vertices
pub corner_listed : (hs : List HalfSpace) (v : RationalPoint) → IsCornerOf hs v → Listed v (all_of_triples (vertex_at any_point hs) hs)
corner_listed hs v k =
    let found = found_three (IsVertexAt v) (vertex_at any_point hs) (AreTightAt v) (tight_symmetric v)
    (tight_gives any_point hs v k.weak (λ w s. refl)) hs k.one k.two k.three k.one_listed k.two_listed k.three_listed k.tight in
    let w = found.value in
    let same = one_lowest v w k.weak.point found.so.point k.lowest (listed_corner hs w found.listed).lowest found.so.same in
    subst (λ (u : RationalPoint). Listed u (all_of_triples (vertex_at any_point hs) hs)) (sym same) found.listed

-- the vertices of a cell are the corners of its list
pub vertex_corner : (cell : List HalfSpace) (v : RationalPoint) → Contains (vertices cell) v → IsCornerOf (with_cube cell) v
unfolding vertices
vertex_corner cell v c = listed_corner (with_cube cell) v (contains_listed v (vertices cell) c)

-- the corners of the list of a cell are its vertices
pub corner_vertex : (cell : List HalfSpace) (v : RationalPoint) → IsCornerOf (with_cube cell) v → Contains (vertices cell) v
unfolding vertices
corner_vertex cell v k = listed_contains v (vertices cell) (corner_listed (with_cube cell) v k)
