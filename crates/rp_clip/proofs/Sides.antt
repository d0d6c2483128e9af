-- What the side of a point says, and the rows of a table with the sides of its points.
use Rattle.std.proofs.Common.{◌≡◌, ℕ, suc, ◌<◌, ℤ, pos, ◌≤ℤ◌, ◌<ℤ◌, ⊎_elim, Bool, true, false, List, [], ◌∷◌, length, map, refl, sym, ap, ◌∙◌, subst, arith}
use Rattle.std.specs.Prelude.{Some, option_map, slice_index_or}
use Rattle.std.specs.List.{slice_get}
use Rattle.std.proofs.lemmas.Int.{ints}
use Rattle.rp_algebra.specs.Integer.{is_zero, is_positive}
use Rattle.rp_algebra.proofs.IntLaws.{le_or_lt_ℤ}
use Rattle.rp_algebra.proofs.Tests.{positive_is, not_positive_is, zero_is, is_positive_true, is_positive_false, is_zero_true, is_zero_false, false_not_true}
use Rattle.rp_algebra.proofs.Numbers.{below_not_zero, nonpos_of_neg, nonpos_of_zero}
use Rattle.rp_algebra.proofs.Lists.{map_get, get_some}
use Rattle.rp_geometry.specs.Geometry.{RationalPoint, HalfSpace, IsPoint, side_value, reduced_point}
use Rattle.rp_convex.proofs.Reduced.{same_sign_reduced}
use Rattle.rp_clip.specs.Masks.{mask_of}
use Rattle.rp_clip.specs.Crossings.{HasSides}
use Rattle.rp_clip.specs.Sides.{side_by, side_of, is_not_below}
use Rattle.rp_clip.specs.declared.cross.Side.{Side}
use Rattle.rp_clip.specs.declared.cross.Side.TheVariants.{Above, On, Below}
use Rattle.rp_clip.proofs.HalfAt.{get_index}
use Rattle.rp_clip.specs.Tables.{Rows}

-- what a side says of the value
abbrev pub SideSays : Side → ℤ → Type 0
SideSays Above v = pos 0 <ℤ v
SideSays On v = v ≡ pos 0
SideSays Below v = v <ℤ pos 0

-- what the two tests say
by_tests : (v : ℤ) (p z : Bool) → is_positive v ≡ p → is_zero v ≡ z → SideSays (side_by p z) v
by_tests v true z ep ez = positive_is v ep
by_tests v false true ep ez = zero_is v ez
by_tests v false false ep ez =
    ⊎_elim
    (λ (l : pos 0 ≤ℤ v). let n = not_positive_is v ep in absurd (false_not_true (is_zero v) (is_zero_true v (omega (arith, ints, l, n))) ez))
    (λ (l : v <ℤ pos 0). l)
    (le_or_lt_ℤ (pos 0) v)

-- the side of a point says so of its value
side_says : (h : HalfSpace) (p : RationalPoint) → SideSays (side_of h p) (side_value h p)
side_says h p = by_tests (side_value h p) (is_positive (side_value h p)) (is_zero (side_value h p)) refl refl

-- a side that is known
pub known_side : (h : HalfSpace) (p : RationalPoint) (s : Side) → side_of h p ≡ s → SideSays s (side_value h p)
known_side h p s e = subst (λ (t : Side). SideSays t (side_value h p)) e (side_says h p)

-- a side that says so of the value is the side
by_says : (s : Side) (v : ℤ) → SideSays s v → s ≡ side_by (is_positive v) (is_zero v)
by_says Above v l = sym (ap (λ (b : Bool). side_by b (is_zero v)) (is_positive_true v l))
by_says On v e = sym (λ i. side_by (is_positive_false v (nonpos_of_zero v e) i) (is_zero_true v e i))
by_says Below v l = sym (λ i. side_by (is_positive_false v (nonpos_of_neg v l) i) (is_zero_false v (below_not_zero v l) i))

-- the value at a point tells the side of the point in lowest terms
pub reduced_side : (h : HalfSpace) (p : RationalPoint) (v : ℤ) (s : Side) → IsPoint p → v ≡ side_value h p → SideSays s v → s ≡ side_of h (reduced_point p)
reduced_side h p v s k e says =
    let same = same_sign_reduced h p k in
    by_says s v says ∙ ap (λ (u : ℤ). side_by (is_positive u) (is_zero u)) e ∙ (λ i. side_by (same.positive i) (same.zero i))

-- a point with a value above 0 is above
pub above_side : (h : HalfSpace) (p : RationalPoint) → pos 0 <ℤ side_value h p → side_of h p ≡ Above
above_side h p l = ap (λ (b : Bool). side_by b (is_zero (side_value h p))) (is_positive_true (side_value h p) l)

-- one with a value below 0 is below
pub below_side : (h : HalfSpace) (p : RationalPoint) → side_value h p <ℤ pos 0 → side_of h p ≡ Below
below_side h p l =
    (λ i. side_by (is_positive_false (side_value h p) (nonpos_of_neg (side_value h p) l) i) (is_zero_false (side_value h p) (below_not_zero (side_value h p) l) i))

-- what is not below has a value that is not negative
not_below_by : (s : Side) (v : ℤ) → SideSays s v → is_not_below s ≡ true → pos 0 ≤ℤ v
not_below_by Above v h e = omega (arith, ints, h)
not_below_by On v h e = omega (arith, ints, h)
not_below_by Below v h e = absurd (cc)

-- the same of a point
pub not_below_is : (h : HalfSpace) (p : RationalPoint) → is_not_below (side_of h p) ≡ true → pos 0 ≤ℤ side_value h p
not_below_is h p e = not_below_by (side_of h p) (side_value h p) (side_says h p) e

-- a value that is not negative is not below
by_value : (s : Side) (v : ℤ) → SideSays s v → pos 0 ≤ℤ v → is_not_below s ≡ true
by_value Above v h l = refl
by_value On v h l = refl
by_value Below v h l = absurd (omega (arith, ints, h, l))

-- the same of a point
pub is_not_below_true : (h : HalfSpace) (p : RationalPoint) → pos 0 ≤ℤ side_value h p → is_not_below (side_of h p) ≡ true
is_not_below_true h p l = by_value (side_of h p) (side_value h p) (side_says h p) l

-- ---- the rows of a table

-- a map is as long
pub map_length : {A B : Type 0} (f : A → B) (xs : List A) → length (map f xs) ≡ length xs
map_length f [] = refl
map_length f (x ∷ xs) = ap suc (map_length f xs)

-- what stands at a place of a list that is a map
pub mapped_at : {A B : Type 0} (f : A → B) (xs : List A) (ys : List B) (i : ℕ) (x : A) (d : B) → ys ≡ map f xs → slice_get xs i ≡ Some x → slice_index_or ys i d ≡ f x
mapped_at f xs ys i x d e a = get_index ys i (f x) d (ap (λ zs. slice_get zs i) e ∙ map_get f xs i ∙ ap (option_map f) a)

-- a point of the table, its side and its places
pub record Row (cell : List HalfSpace) (h : HalfSpace) (t : Rows) (sides : List Side) (i : ℕ) : Type 0 where
  pub point : RationalPoint
  pub at : slice_get t.points i ≡ Some point
  pub side : (d : Side) → slice_index_or sides i d ≡ side_of h point
  pub planes : (d : ℕ) → slice_index_or t.planes i d ≡ mask_of cell point

-- each place has one
pub row : {most : ℕ} (cell : List HalfSpace) (h : HalfSpace) (t : Rows) (sides : List Side) (i : ℕ) → HasSides most cell h t sides → i < length sides → Row cell h t sides i
row cell h t sides i k l =
    let e : length sides ≡ length t.points = ap length k.each ∙ map_length (side_of h) t.points in
    let g = get_some t.points i (omega (arith, l, e)) in
    record {
      point = g.0;
      at = g.1;
      side = λ d. mapped_at (side_of h) t.points sides i g.0 d k.each g.1;
      planes = λ d. mapped_at (mask_of cell) t.points t.planes i g.0 d k.table.planes g.1;
    }
