-- The half-space at a place.
use Rattle.std.proofs.Common.{◌≡◌, ℕ, zero, suc, ◌-◌, ◌<◌, ◌≤◌, ⊎_elim, Bool, true, false, cond, List, [], ◌∷◌, length, refl, sym, ap, ◌∙◌, subst, arith, nat_lt}
use Rattle.std.specs.Prelude.{Option, Some, IsSome, is_some, slice_index_or}
use Rattle.std.specs.List.{slice_get}
use Rattle.std.proofs.lemmas.Bool.{cases_lt}
use Rattle.std.proofs.lemmas.Bool.Decides.{nat_tests}
use Rattle.rp_algebra.proofs.Options.{known_some, none_not_some, same_some}
use Rattle.rp_geometry.specs.Geometry.{HalfSpace, cube_half_spaces}
use Rattle.rp_space.specs.Places.{IsIn}
use Rattle.rp_clip.specs.Masks.{half_at, HasHalfSpaces, HasLowPlaces}

-- a number below another passes the test
below_true : (a b : ℕ) → a < b → nat_lt a b ≡ true
below_true a b h = grind (arith, nat_tests)

-- a number that is not fails it
below_false : (a b : ℕ) → b ≤ a → nat_lt a b ≡ false
below_false a b h = grind (arith, nat_tests)

-- a place of the cell
pub at_cell : (cell : List HalfSpace) (i : ℕ) → i < 64 → half_at cell i ≡ slice_get cell i
unfolding half_at
at_cell cell i h = ap (λ (b : Bool). cond b (slice_get cell i) (slice_get cube_half_spaces (i - 64))) (below_true i 64 h)

-- a place of the cube
pub at_cube : (cell : List HalfSpace) (i : ℕ) → 64 ≤ i → half_at cell i ≡ slice_get cube_half_spaces (i - 64)
unfolding half_at
at_cube cell i h = ap (λ (b : Bool). cond b (slice_get cell i) (slice_get cube_half_spaces (i - 64))) (below_false i 64 h)

-- a place with an item is below the length
pub get_below : {A : Type 0} (xs : List A) (i : ℕ) (x : A) → slice_get xs i ≡ Some x → i < length xs
get_below [] i x e = absurd (none_not_some x e)
get_below (y ∷ xs) zero x e = omega arith
get_below (y ∷ xs) (suc i) x e = let h = get_below xs i x e in omega (arith, h)

-- the same of a place that is known to have one
some_below : {A : Type 0} (xs : List A) (i : ℕ) → IsSome (slice_get xs i) → i < length xs
some_below xs i s = let k = known_some (slice_get xs i) s in get_below xs i k.value k.is

-- what stands at a place
pub index_get : {A : Type 0} (xs : List A) (i : ℕ) (x : A) → i < length xs → slice_index_or xs i x ≡ x → Some x ≡ slice_get xs i
index_get [] i x h e = absurd (omega (arith, h))
index_get (y ∷ xs) zero x h e = ap Some (sym e)
index_get (y ∷ xs) (suc i) x h e = index_get xs i x (omega (arith, h)) e

-- the same, read the other way
pub get_index : {A : Type 0} (xs : List A) (i : ℕ) (x d : A) → slice_get xs i ≡ Some x → slice_index_or xs i d ≡ x
get_index [] i x d e = absurd (none_not_some x e)
get_index (y ∷ xs) zero x d e = same_some y x e
get_index (y ∷ xs) (suc i) x d e = get_index xs i x d e

-- ---- what `at` needs

-- a place of the cell is within it
pub cell_place : (cell xs : List HalfSpace) (i : ℕ) → xs ≡ cell → i < 64 → IsSome (half_at cell i) → i < length xs
cell_place cell xs i e h s = subst (λ (ys : List HalfSpace). i < length ys) (sym e) (some_below cell i (subst (λ (o : Option HalfSpace). IsSome o) (at_cell cell i h) s))

-- a place of the cube is below 70
pub cube_place : (cell : List HalfSpace) (i : ℕ) → 64 ≤ i → IsSome (half_at cell i) → i - 64 < 6
cube_place cell i h s = some_below cube_half_spaces (i - 64) (subst (λ (o : Option HalfSpace). IsSome o) (at_cube cell i h) s)

-- a half-space of the cell
pub from_cell : (cell xs : List HalfSpace) (i : ℕ) (x : HalfSpace) → xs ≡ cell → i < 64 → i < length xs → slice_index_or xs i x ≡ x → Some x ≡ half_at cell i
from_cell cell xs i x e h l s = index_get xs i x l s ∙ ap (λ (ys : List HalfSpace). slice_get ys i) e ∙ sym (at_cell cell i h)

-- a half-space of the cube
pub from_cube : (cell xs : List HalfSpace) (i : ℕ) (x : HalfSpace) → xs ≡ cube_half_spaces → 64 ≤ i → i - 64 < 6 → Some (slice_index_or xs (i - 64) x) ≡ half_at cell i
from_cube cell xs i x e h l =
    ap (λ (ys : List HalfSpace). Some (slice_index_or ys (i - 64) x)) e ∙ in_list cube_half_spaces (i - 64) x l ∙ sym (at_cube cell i h)
  where
    in_list : {A : Type 0} (ys : List A) (j : ℕ) (d : A) → j < length ys → Some (slice_index_or ys j d) ≡ slice_get ys j
    in_list [] j d m = absurd (omega (arith, m))
    in_list (y ∷ ys) zero d m = refl
    in_list (y ∷ ys) (suc j) d m = in_list ys j d (omega (arith, m))

-- every place with a half-space is below 70
pub place_below : (cell : List HalfSpace) (i : ℕ) (h : HalfSpace) → half_at cell i ≡ Some h → i < 70
place_below cell i h e =
    ⊎_elim
    (λ (l : i < 64). omega (arith, l))
    (λ (l : 64 ≤ i). let k = get_below cube_half_spaces (i - 64) h (sym (at_cube cell i l) ∙ e) in under i l k)
    (cases_lt i 64)
  where
    under : (n : ℕ) → 64 ≤ n → n - 64 < 6 → n < 70
    under n a b = omega (arith, a, b)

-- a place of a set with half-spaces is below 70
pub in_below : (cell : List HalfSpace) (set i : ℕ) → HasHalfSpaces cell set → IsIn set i → i < 70
in_below cell set i has e = let k = has i e in place_below cell i k.0 k.1

-- and it has a half-space
pub in_some : (cell : List HalfSpace) (set i : ℕ) → HasHalfSpaces cell set → IsIn set i → IsSome (half_at cell i)
in_some cell set i has e = let k = has i e in ap is_some k.1

-- a set with half-spaces has no place above them
pub low_places : (cell : List HalfSpace) (set : ℕ) → HasHalfSpaces cell set → HasLowPlaces set
low_places cell set has i e = in_below cell set i has e
