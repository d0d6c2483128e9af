-- The half-spaces of a cell in another order: the vertices are the same, and the planes through each, at other places.
use Rattle.std.proofs.Common.{◌≡◌, ℕ, zero, suc, ◌<◌, ◌≤◌, ⊎_elim, List, [], ◌∷◌, length, refl, sym, ap, ◌∙◌, arith}
use Rattle.std.specs.Prelude.{Some}
use Rattle.std.specs.Int.{bit_at}
use Rattle.std.specs.List.{Contains, slice_get}
use Rattle.std.proofs.lemmas.Bool.{cases_lt}
use Rattle.std.proofs.lemmas.Nat.Bits.{bit_at-lt, same_from_bits}
use Rattle.rp_algebra.proofs.Listed.{Listed, first, later, listed_left, listed_right, listed_cases, listed_at, place_of, all_of, of_all}
use Rattle.rp_algebra.proofs.Options.{none_not_some, same_some}
use Rattle.rp_geometry.specs.Geometry.{RationalPoint, HalfSpace, IsHalfSpace, cube_half_spaces, with_cube}
use Rattle.rp_geometry.specs.searches.Vertex.{vertices}
use Rattle.rp_geometry.specs.laws.CellLaws.{AreHalfSpaces}
use Rattle.rp_convex.proofs.Corners.{vertex_corner, corner_vertex}
use Rattle.rp_space.specs.Places.{IsIn}
use Rattle.rp_clip.specs.Masks.{is_through, mask_of}
use Rattle.rp_clip.specs.Polygons.{Covers, IsSorted, IsRenamed}
use Rattle.rp_clip.proofs.Filled.{place_in}
use Rattle.rp_clip.proofs.HalfAt.{at_cell, at_cube, get_below}
use Rattle.rp_space.proofs.Bits.{bit_of}
use Rattle.rp_clip.proofs.Masks.{mask_bit, in_mask}

-- ---- the same half-spaces

-- a half-space of the cell that stands at a rank of the order
pub record StandsBoth (cell sorted : List HalfSpace) (i rank : ℕ) : Type 0 where
  pub half : HalfSpace
  pub in_cell : slice_get cell i ≡ Some half
  pub in_sorted : slice_get sorted rank ≡ Some half

-- each rank of the order has one
pub ranked : (cell : List HalfSpace) (order : List ℕ) (sorted : List HalfSpace) (rank i : ℕ) → IsSorted cell order sorted → slice_get order rank ≡ Some i → StandsBoth cell sorted i rank
ranked cell [] sorted rank i s e = absurd (none_not_some i e)
ranked cell (j ∷ order) [] rank i s e = absurd s
ranked cell (j ∷ order) (h ∷ sorted) zero i s e = record { half = h; in_cell = ap (slice_get cell) (sym (same_some j i e)) ∙ s.0; in_sorted = refl }
ranked cell (j ∷ order) (h ∷ sorted) (suc rank) i s e = let r = ranked cell order sorted rank i s.1 e in record { half = r.half; in_cell = r.in_cell; in_sorted = r.in_sorted }

-- the order is as long as the list
pub as_long : (cell : List HalfSpace) (order : List ℕ) (sorted : List HalfSpace) → IsSorted cell order sorted → length order ≡ length sorted
as_long cell [] [] s = refl
as_long cell [] (h ∷ sorted) s = absurd s
as_long cell (i ∷ order) [] s = absurd s
as_long cell (i ∷ order) (h ∷ sorted) s = ap suc (as_long cell order sorted s.1)

-- each half-space of the sorted list is one of the cell
in_cell : (cell : List HalfSpace) (order : List ℕ) (sorted : List HalfSpace) → IsSorted cell order sorted → (h : HalfSpace) → Listed h sorted → Listed h cell
in_cell cell [] [] s h l = elim l [ ]
in_cell cell [] (k ∷ sorted) s h l = absurd s
in_cell cell (i ∷ order) [] s h l = absurd s
in_cell cell (i ∷ order) (k ∷ sorted) s h first = listed_at k cell i s.0
in_cell cell (i ∷ order) (k ∷ sorted) s h (later l) = in_cell cell order sorted s.1 h l

-- and the other way round, where the order has all places
in_sorted : (cell : List HalfSpace) (order : List ℕ) (sorted : List HalfSpace) → IsSorted cell order sorted → Covers order (length cell) → (h : HalfSpace) → Listed h cell → Listed h sorted
in_sorted cell order sorted s c h l =
    let p = place_of h cell l in
    let r = place_in order p.0 (c.all p.0 (get_below cell p.0 h p.1)) in
    let b = ranked cell order sorted r.0 p.0 s r.1 in
    listed_at h sorted r.0 (b.in_sorted ∙ ap Some (same_some b.half h (sym b.in_cell ∙ p.1)))

-- with those of the cube
with_those : (xs ys : List HalfSpace) → ((h : HalfSpace) → Listed h xs → Listed h ys) → (h : HalfSpace) → Listed h (with_cube xs) → Listed h (with_cube ys)
with_those xs ys to h l = ⊎_elim (λ (m : Listed h xs). listed_left h ys cube_half_spaces (to h m)) (λ (m : Listed h cube_half_spaces). listed_right h ys cube_half_spaces m) (listed_cases h xs cube_half_spaces l)

-- the same half-spaces have the same vertices
same_vertices : (xs ys : List HalfSpace) → ((h : HalfSpace) → Listed h xs → Listed h ys) → ((h : HalfSpace) → Listed h ys → Listed h xs) → (v : RationalPoint) → Contains (vertices xs) v → Contains (vertices ys) v
same_vertices xs ys to from v c =
    let k = vertex_corner xs v c in
    corner_vertex ys v (record {
      weak = record { point = k.weak.point; sides = λ h l. k.weak.sides h (with_those ys xs from h l) };
      lowest = k.lowest;
      one = k.one;
      two = k.two;
      three = k.three;
      one_listed = with_those xs ys to k.one k.one_listed;
      two_listed = with_those xs ys to k.two k.two_listed;
      three_listed = with_those xs ys to k.three k.three_listed;
      tight = k.tight;
    })

module _ (cell : List HalfSpace) (order : List ℕ) (sorted : List HalfSpace) (few : length cell ≤ 64) (short : length sorted ≤ 64) (s : IsSorted cell order sorted) (c : Covers order (length cell)) where
  -- the vertices of the sorted list are those of the cell
  pub vertices_to : (v : RationalPoint) → Contains (vertices sorted) v → Contains (vertices cell) v
  vertices_to = same_vertices sorted cell (in_cell cell order sorted s) (in_sorted cell order sorted s c)

  pub vertices_from : (v : RationalPoint) → Contains (vertices cell) v → Contains (vertices sorted) v
  vertices_from = same_vertices cell sorted (in_sorted cell order sorted s c) (in_cell cell order sorted s)

  -- the half-spaces keep their bounds
  pub bounds_to : AreHalfSpaces sorted → AreHalfSpaces cell
  bounds_to b = of_all IsHalfSpace cell (λ h l. all_of IsHalfSpace sorted b h (in_sorted cell order sorted s c h l))

  -- a bit of the one mask is one of the other
  pub bit_moved : (v : RationalPoint) (rank i : ℕ) → slice_get order rank ≡ Some i → bit_at (mask_of sorted v) rank ≡ bit_at (mask_of cell v) i
  bit_moved v rank i e =
      let b = ranked cell order sorted rank i s e in
      let low = get_below sorted rank b.half b.in_sorted in
      let below = get_below cell i b.half b.in_cell in
      mask_bit sorted v rank short
      ∙ ap (bit_of (is_through v)) (at_cell sorted rank (omega (arith, low, short)) ∙ b.in_sorted ∙ sym b.in_cell ∙ sym (at_cell cell i (omega (arith, below, few))))
      ∙ sym (mask_bit cell v i few)

  -- two bits that are 1 together are the same
  same_bit : (a b : ℕ) → a < 2 → b < 2 → (a ≡ 1 → b ≡ 1) → (b ≡ 1 → a ≡ 1) → a ≡ b
  same_bit a b h k f g = grind arith

  -- the mask of a point, renamed
  pub mask_renamed : (v : RationalPoint) (renamed : ℕ) → IsRenamed order (mask_of sorted v) renamed → mask_of cell v ≡ renamed
  mask_renamed v renamed r = same_from_bits (mask_of cell v) renamed (λ i. ⊎_elim (low i) (high i) (cases_lt i 64))
    where
      set : ℕ
      set = mask_of sorted v

      low : (i : ℕ) → i < 64 → bit_at (mask_of cell v) i ≡ bit_at renamed i
      low i l = same_bit (bit_at (mask_of cell v) i) (bit_at renamed i) (bit_at-lt (mask_of cell v) i) (bit_at-lt renamed i) to from
        where
          to : IsIn (mask_of cell v) i → IsIn renamed i
          to b =
              let t = in_mask cell v i few b in
              let p = place_in order i (c.all i (get_below cell i t.half (sym (at_cell cell i l) ∙ t.at))) in
              r.ranked p.0 i (bit_moved v p.0 i p.1 ∙ b) p.1

          from : IsIn renamed i → IsIn (mask_of cell v) i
          from b = let p = r.cell i l b in sym (bit_moved v p.0 i p.2) ∙ p.1

      same_high : (i : ℕ) → 64 ≤ i → bit_at (mask_of cell v) i ≡ bit_at (mask_of sorted v) i
      same_high i l = mask_bit cell v i few ∙ ap (bit_of (is_through v)) (at_cube cell i l ∙ sym (at_cube sorted i l)) ∙ sym (mask_bit sorted v i short)

      high : (i : ℕ) → 64 ≤ i → bit_at (mask_of cell v) i ≡ bit_at renamed i
      high i l = same_bit (bit_at (mask_of cell v) i) (bit_at renamed i) (bit_at-lt (mask_of cell v) i) (bit_at-lt renamed i) (λ b. r.cube_to i l (sym (same_high i l) ∙ b)) (λ b. same_high i l ∙ r.cube_from i l b)
