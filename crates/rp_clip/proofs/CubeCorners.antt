-- The corners of the cube are the vertices of a cell with no half-spaces.
use Rattle.std.proofs.Common.{◌≡◌, ℕ, ℤ, Bool, true, false, List, [], ◌∷◌, ◌++◌, ◌≤◌, length, map, refl, sym, ap, ◌∙◌, subst, arith}
use Rattle.std.specs.Prelude.{not, ◌&&◌}
use Rattle.std.specs.List.{Contains, list_any}
use Rattle.std.proofs.lemmas.Bool.Decides.{Decides-int_eq}
use Rattle.rp_algebra.specs.Integer.{int_eq, gcd_of, gcd}
use Rattle.rp_algebra.proofs.Tests.{false_not_true, and_true, and_first, and_second}
use Rattle.rp_algebra.proofs.Filter.{passes_some}
use Rattle.rp_convex.proofs.Standing.{contains_listed}
use Rattle.rp_clip.specs.Clipped.{HasVertices}
use Rattle.rp_clip.specs.Masks.{mask_of}
use Rattle.rp_clip.specs.Tables.{Rows, AreDistinct, AreDifferentVertices}
use Rattle.rp_geometry.specs.Geometry.{RationalPoint, reduced_point}
use Rattle.rp_geometry.specs.searches.Vertex.{vertices, meeting_point}
use Rattle.rp_clip.specs.CubeCorners.{cube_corner, cube_corners}

-- they are, by computing all meeting points
cube_vertices : vertices [] ≡ cube_corners
unfolding vertices meeting_point reduced_point gcd_of gcd
cube_vertices = refl

-- a corner is in lowest terms
pub corner_is : (x y z : Bool) → reduced_point (cube_corner x y z) ≡ cube_corner x y z
unfolding reduced_point gcd_of gcd
corner_is false false false = refl
corner_is false false true = refl
corner_is false true false = refl
corner_is false true true = refl
corner_is true false false = refl
corner_is true false true = refl
corner_is true true false = refl
corner_is true true true = refl

-- a list with one item more, where both are known
pub pushed : {A : Type 0} {old new xs : List A} {x y : A} → old ≡ xs → new ≡ old ++ x ∷ [] → x ≡ y → new ≡ xs ++ y ∷ []
pushed e f g = f ∙ (λ i. e i ++ g i ∷ [])

-- the first item is not one of the others, by a test of both
not_among : {A : Type 0} (test : A → A → Bool) → ((x : A) → test x x ≡ true) → (x : A) (xs : List A) → list_any (test x) xs ≡ false → Contains xs x → ⊥
not_among test same x xs e c = false_not_true (list_any (test x) xs) (passes_some (test x) xs x (contains_listed x xs c) (same x)) e

-- two points have the same numbers
abbrev same_numbers : RationalPoint → RationalPoint → Bool
same_numbers p q = int_eq p.x q.x && (int_eq p.y q.y && int_eq p.z q.z)

-- a point has its own
same_as_itself : (p : RationalPoint) → same_numbers p p ≡ true
same_as_itself p = and_true (int_eq p.x p.x) (int_eq p.y p.y && int_eq p.z p.z) (int_same p.x) (and_true (int_eq p.y p.y) (int_eq p.z p.z) (int_same p.y) (int_same p.z))
  where
    int_same : (v : ℤ) → int_eq v v ≡ true
    int_same v = (Decides-int_eq v v).1 refl

-- no point of the list has the numbers of a later one
abbrev all_apart : List RationalPoint → Bool
all_apart [] = true
all_apart (p ∷ ps) = not (list_any (same_numbers p) ps) && all_apart ps

-- such points are different
apart_distinct : (ps : List RationalPoint) → all_apart ps ≡ true → AreDistinct ps
apart_distinct [] e = tt
apart_distinct (p ∷ ps) e = (
  not_among same_numbers same_as_itself p ps (not_true (list_any (same_numbers p) ps) (and_first (not (list_any (same_numbers p) ps)) (all_apart ps) e)),
  apart_distinct ps (and_second (not (list_any (same_numbers p) ps)) (all_apart ps) e),
)
  where
    not_true : (b : Bool) → not b ≡ true → b ≡ false
    not_true true f = absurd (cc)
    not_true false f = refl

-- the corners are different
corners_distinct : AreDistinct cube_corners
corners_distinct = apart_distinct cube_corners refl

-- the table of the corners is that of a cell with no half-spaces
pub cube_clip : (most : ℕ) (t : Rows) → 8 ≤ most → t.points ≡ cube_corners → t.planes ≡ map (mask_of []) cube_corners → HasVertices most [] t
cube_clip most t room ep el = record {
  few = omega arith;
  bounds = tt;
  table = record {
    different = subst (λ (xs : List RationalPoint). AreDifferentVertices [] xs) (sym ep) (record { distinct = corners_distinct; vertices = λ v c. subst (λ (xs : List RationalPoint). Contains xs v) (sym cube_vertices) c });
    planes = el ∙ ap (map (mask_of [])) (sym ep);
    fits = subst (λ (xs : List RationalPoint). length xs ≤ most) (sym ep) room;
  };
  complete = λ v c. subst (λ (xs : List RationalPoint). Contains xs v) (cube_vertices ∙ sym ep) c;
}
