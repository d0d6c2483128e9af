-- What is passed over on a line is no vertex.
use Rattle.std.proofs.Common.{◌≡◌, pos, ◌<ℤ◌, Bool, true, false, ◌&&◌, ⊎_elim, List, refl, sym, subst, arith}
use Rattle.std.specs.List.{Contains}
use Rattle.std.specs.Prelude.{Option, Some, None, negsuc}
use Rattle.std.proofs.lemmas.Bool.{or_cases}
use Rattle.std.proofs.lemmas.Int.{ints}
use Rattle.rp_algebra.specs.Integer.{is_negative, is_positive}
use Rattle.rp_algebra.proofs.Listed.{Listed, first, later, listed_right}
use Rattle.rp_algebra.proofs.Numbers.{above_not_zero, below_not_zero}
use Rattle.rp_algebra.proofs.Options.{some_not_none}
use Rattle.rp_algebra.proofs.Tests.{and_first, and_second, negative_is, positive_is}
use Rattle.rp_geometry.specs.Geometry.{RationalPoint, HalfSpace, all_nonnegative, cube_bound, cube_half_spaces, half_space_of, side_value, with_cube}
use Rattle.rp_geometry.specs.searches.Vertex.{any_point, meeting_point, vertex_at, vertex_if}
use Rattle.rp_convex.proofs.Vertex.{weak_is}
use Rattle.rp_convex.proofs.Corners.{meeting_is, passed_choice}
use Rattle.rp_convex.proofs.Standing.{contains_listed, listed_contains}
use Rattle.rp_space.specs.TwoHalfSpaces.{TwoHalfSpaces}
use Rattle.rp_vertex.specs.Joined.{HasCube}
use Rattle.rp_vertex.specs.Line.{HoldsVertices, IsBetween, IsInCube, IsLeft, IsNothingLeft, IsSpan}
use Rattle.rp_vertex.specs.declared.line.Line.TheVariants.{Empty, Between}
use Rattle.rp_vertex.specs.declared.line.Span.{Span}
use Rattle.rp_vertex.proofs.Span.{between_sides, negative_left, positive_left}

-- ---- no vertex

-- what a vertex on the line would be
record IsVertexOn (system : List HalfSpace) (pair : TwoHalfSpaces) (h : HalfSpace) (v : RationalPoint) : Type 0 where
  left : IsLeft system pair v
  on : side_value h v ≡ pos 0

-- where no such point is there is no vertex
no_vertex : (system : List HalfSpace) (pair : TwoHalfSpaces) (h : HalfSpace) → ((v : RationalPoint) → IsVertexOn system pair h v → ⊥) → vertex_at any_point system pair.first pair.second h ≡ None
no_vertex system pair h none = by_answer (vertex_at any_point system pair.first pair.second h) refl
  where
    by_answer : (o : Option RationalPoint) → vertex_at any_point system pair.first pair.second h ≡ o → vertex_at any_point system pair.first pair.second h ≡ None
    by_answer None e = e
    by_answer (Some v) e =
        let p = passed_choice any_point system (meeting_point pair.first pair.second h) v e in
        let m = meeting_is pair.first pair.second h v p.is in
        let w = weak_is system v m.point p.weak in
        absurd (none v (record {
          left = record { on = record { point = m.point; first = m.tight.first; second = m.tight.second }; sides = λ k c. w.sides k (contains_listed k system c) };
          on = m.tight.third;
        }))

-- where nothing is left of the line, no vertex is passed over
pub empty_holds : (system : List HalfSpace) (pair : TwoHalfSpaces) → IsNothingLeft system pair → HoldsVertices system pair Empty
empty_holds system pair none h e = no_vertex system pair h (λ v k. none v k.left)

-- what is passed over by the ends is no vertex
pub span_holds : (system : List HalfSpace) (pair : TwoHalfSpaces) (span : Span) → IsSpan system pair span → HoldsVertices system pair (Between span)
span_holds system pair span k h e =
    no_vertex system pair h (λ v on. ⊎_elim
    (λ (t : (is_positive (side_value h span.one) && is_positive (side_value h span.two)) ≡ true).
    above_not_zero (side_value h v)
    (positive_left system pair span k h
    (positive_is (side_value h span.one) (and_first (is_positive (side_value h span.one)) (is_positive (side_value h span.two)) t))
    (positive_is (side_value h span.two) (and_second (is_positive (side_value h span.one)) (is_positive (side_value h span.two)) t)) v on.left) on.on)
    (λ (t : (is_negative (side_value h span.one) && is_negative (side_value h span.two)) ≡ true).
    below_not_zero (side_value h v)
    (negative_left system pair span k h
    (negative_is (side_value h span.one) (and_first (is_negative (side_value h span.one)) (is_negative (side_value h span.two)) t))
    (negative_is (side_value h span.two) (and_second (is_negative (side_value h span.one)) (is_negative (side_value h span.two)) t)) v on.left) on.on)
    (or_cases (is_positive (side_value h span.one) && is_positive (side_value h span.two)) (is_negative (side_value h span.one) && is_negative (side_value h span.two)) e))

-- no point that would be a vertex passes any other test either
pub none_wanted : (test : RationalPoint → Bool) (system : List HalfSpace) (o : Option RationalPoint) → vertex_if any_point system o ≡ None → vertex_if test system o ≡ None
none_wanted test system None e = refl
none_wanted test system (Some p) e = by_test (all_nonnegative system p) (test p) e
  where
    by_test : (b t : Bool) → elim (b && true) as (λ _. Option RationalPoint) [ true ↦ Some p | false ↦ None ] ≡ None → elim (b && t) as (λ _. Option RationalPoint) [ true ↦ Some p | false ↦ None ] ≡ None
    by_test true t k = absurd (some_not_none p k)
    by_test false t k = refl

-- ---- the start

-- a side of the cube stands in a list with the cube's
side_contained : (system : List HalfSpace) → HasCube system → (h : HalfSpace) → Listed h cube_half_spaces → Contains system h
side_contained system (cell, e) h l = subst (λ (hs : List HalfSpace). Contains hs h) (sym e) (listed_contains h (with_cube cell) (listed_right h cell cube_half_spaces l))

-- the part of a line between two sides of the cube has all that is left
pub cube_span : (system : List HalfSpace) (pair : TwoHalfSpaces) (span : Span) → HasCube system → IsInCube pair span → IsSpan system pair span
cube_span system pair span cube k =
    let m : pos 0 <ℤ cube_bound = omega (arith, ints) in
    ⊎_elim
    (λ (b : IsBetween pair (half_space_of (pos 1) (pos 0) (pos 0) cube_bound) (half_space_of (negsuc 0) (pos 0) (pos 0) cube_bound) span).
    between_sides system pair (pos 1) (pos 0) (pos 0) cube_bound span m (side_contained system cube _ first) (side_contained system cube _ (later first)) b)
    (⊎_elim
    (λ (b : IsBetween pair (half_space_of (pos 0) (pos 1) (pos 0) cube_bound) (half_space_of (pos 0) (negsuc 0) (pos 0) cube_bound) span).
    between_sides system pair (pos 0) (pos 1) (pos 0) cube_bound span m (side_contained system cube _ (later (later first))) (side_contained system cube _ (later (later (later first)))) b)
    (λ (b : IsBetween pair (half_space_of (pos 0) (pos 0) (pos 1) cube_bound) (half_space_of (pos 0) (pos 0) (negsuc 0) cube_bound) span).
    between_sides system pair (pos 0) (pos 0) (pos 1) cube_bound span m (side_contained system cube _ (later (later (later (later first))))) (side_contained system cube _ (later (later (later (later (later first)))))) b))
    k
