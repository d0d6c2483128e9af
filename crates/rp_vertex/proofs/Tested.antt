-- The tests of a vertex answer the same before and after a point is put into lowest terms.
use Rattle.std.proofs.Common.{◌≡◌, ℤ, pos, ◌*ℤ◌, ◌≤ℤ◌, ◌<ℤ◌, ⊎_elim, Bool, true, false, ◌&&◌, ◌||◌, List, [], ◌∷◌, refl, sym, ap, ◌∙◌, subst, arith}
use Rattle.std.specs.Prelude.{Option, Some, None}
use Rattle.std.proofs.lemmas.Int.{ints}
use Rattle.rp_algebra.specs.Integer.{is_positive, is_nonnegative}
use Rattle.rp_algebra.proofs.IntLaws.{le_or_lt_ℤ}
use Rattle.rp_algebra.proofs.Numbers.{nonneg_over, negative_over}
use Rattle.rp_algebra.proofs.Tests.{is_nonnegative_true}
use Rattle.rp_geometry.specs.Geometry.{RationalPoint, HalfSpace, IsPoint, side_value, all_nonnegative, reduced_point}
use Rattle.rp_geometry.specs.searches.Vertex.{any_point, lifts, vertex_if}
use Rattle.rp_convex.proofs.Lowest.{reduced_is}
use Rattle.rp_convex.proofs.Places.{same_side}
use Rattle.rp_convex.proofs.Reduced.{same_reduced, same_sign_reduced}
use Rattle.rp_vertex.specs.Wanted.{is_wanted}
use Rattle.rp_vertex.specs.declared.search.Wanted.{Wanted}
use Rattle.rp_vertex.specs.declared.search.Wanted.TheVariants.{Any, Lifting}

-- ---- the signs
-- a number below 0 fails the test
is_nonnegative_false : (v : ℤ) → v <ℤ pos 0 → is_nonnegative v ≡ false
is_nonnegative_false v h = grind (arith, ints)

-- two numbers of which multiples by numbers above 0 are equal are both negative, or neither is
same_nonnegative : (u v s t : ℤ) → pos 0 <ℤ s → pos 0 <ℤ t → t *ℤ u ≡ s *ℤ v → is_nonnegative u ≡ is_nonnegative v
same_nonnegative u v s t hs ht e =
    ⊎_elim
    (λ (n : pos 0 ≤ℤ u). is_nonnegative_true u n ∙ sym (is_nonnegative_true v (nonneg_over u v s t hs ht e n)))
    (λ (l : u <ℤ pos 0). is_nonnegative_false u l ∙ sym (is_nonnegative_false v (negative_over u v s t hs ht e l)))
    (le_or_lt_ℤ (pos 0) u)

-- a half-space is negative at both points, or at neither
nonnegative_reduced : (h : HalfSpace) (p : RationalPoint) → IsPoint p → is_nonnegative (side_value h p) ≡ is_nonnegative (side_value h (reduced_point p))
nonnegative_reduced h p k =
    let r = reduced_point p in
    same_nonnegative (side_value h p) (side_value h r) p.w r.w k (reduced_is p k).point (same_side h p r (same_reduced p k))

-- it is positive at both, or at neither
positive_reduced : (h : HalfSpace) (p : RationalPoint) → IsPoint p → is_positive (side_value h p) ≡ is_positive (side_value h (reduced_point p))
positive_reduced h p k = (same_sign_reduced h p k).positive

-- ---- the tests
-- no half-space of a list is negative at the point, before and after
all_reduced : (hs : List HalfSpace) (p : RationalPoint) → IsPoint p → all_nonnegative hs p ≡ all_nonnegative hs (reduced_point p)
all_reduced [] p k = refl
all_reduced (h ∷ hs) p k = λ i. nonnegative_reduced h p k i && all_reduced hs p k i

-- one of the half-spaces is positive there, before and after
lifts_reduced : (hs : List HalfSpace) (p : RationalPoint) → IsPoint p → lifts hs p ≡ lifts hs (reduced_point p)
lifts_reduced [] p k = refl
lifts_reduced (h ∷ hs) p k = λ i. positive_reduced h p k i || lifts_reduced hs p k i

-- the point is a wanted one, before and after
wanted_reduced : (w : Wanted) (p : RationalPoint) → IsPoint p → is_wanted w p ≡ is_wanted w (reduced_point p)
wanted_reduced Any p k = refl
wanted_reduced (Lifting flat) p k = lifts_reduced flat.now p k

-- ---- the vertex
-- the point that was tested, in lowest terms, is the vertex where the tests pass, and none is there where one fails
pub vertex_is : (w : Wanted) (hs : List HalfSpace) (p : RationalPoint) (o : Option RationalPoint) → IsPoint p → Some (reduced_point p) ≡ o
    → elim (all_nonnegative hs p && is_wanted w p) [ true ↦ Some (reduced_point p) | false ↦ None ] ≡ vertex_if (is_wanted w) hs o
vertex_is w hs p o k e =
    subst (λ (r : Option RationalPoint). elim (all_nonnegative hs p && is_wanted w p) [ true ↦ Some (reduced_point p) | false ↦ None ] ≡ vertex_if (is_wanted w) hs r) e
    (λ i. elim (all_reduced hs p k i && wanted_reduced w p k i) [ true ↦ Some (reduced_point p) | false ↦ None ])

-- the point that passed, in lowest terms, is the vertex
pub vertex_some : (hs : List HalfSpace) (p : RationalPoint) (o : Option RationalPoint) → IsPoint p → Some (reduced_point p) ≡ o → all_nonnegative hs p ≡ true → vertex_if any_point hs o ≡ Some (reduced_point p)
vertex_some hs p o k e f = sym (ap (λ (b : Bool). elim (b && any_point p) [ true ↦ Some (reduced_point p) | false ↦ None ]) (sym f) ∙ vertex_is Any hs p o k e)

-- no vertex is there where it failed
pub vertex_none : (hs : List HalfSpace) (p : RationalPoint) (o : Option RationalPoint) → IsPoint p → Some (reduced_point p) ≡ o → all_nonnegative hs p ≡ false → vertex_if any_point hs o ≡ None
vertex_none hs p o k e f = sym (ap (λ (b : Bool). elim (b && any_point p) [ true ↦ Some (reduced_point p) | false ↦ None ]) (sym f) ∙ vertex_is Any hs p o k e)
