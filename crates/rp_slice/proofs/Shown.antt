-- Slices that pass the test show, each for its part, exactly the members of the parts at the height.
use Rattle.std.proofs.Common.{◌≡◌, ℤ, Bool, true, false, ◌&&◌, List, [], ◌∷◌, inl, inr, ⊎_elim, refl}
use Rattle.std.specs.Prelude.{IsTrue, ◌↔◌}
use Rattle.std.specs.List.{AllZip}
use Rattle.std.proofs.lemmas.Bool.{or_cases, or_left, or_right}
use Rattle.rp_algebra.proofs.Tests.{and_second, and_true, false_not_true}
use Rattle.rp_geometry.specs.Geometry.{RationalPoint, HalfSpace, IsPoint, is_cube_point}
use Rattle.rp_geometry.specs.sets.Shape.{Part, IsMember, passes, shape_of_cell, shape_of_parts}
use Rattle.rp_geometry.specs.sections.Trace.{IsHeight, IsAtHeight}
use Rattle.rp_geometry.specs.sections.Slice.{IsInSlice, IsInSlices, Slice, is_slice}
use Rattle.rp_geometry.specs.laws.SectionLaws.{SlicesShowTheMembers}
use Rattle.rp_slice.proofs.Never.{never_flat}
use Rattle.rp_slice.proofs.Holding.{ring_holds_the_members_spec}

module _ (z : ℤ) (hz : IsHeight z) (p : RationalPoint) (w : IsPoint p) (hp : IsAtHeight z p) (c : is_cube_point p ≡ true) where
  -- one slice
  slice_shows : (cell : List HalfSpace) (s : Slice) → is_slice z cell s ≡ true → IsMember (shape_of_cell cell) p ↔ IsInSlice p s
  slice_shows cell (Slice.ring steps) e = ring_holds_the_members_spec z cell steps hz e p w hp c
  slice_shows cell (Slice.flat terms) e = (λ m. never_flat z cell p terms (record { member = m; height = hp }) e, λ h. absurd h)

  -- a point of the cube that passes a test is a member
  member_of : (cell : List HalfSpace) → passes (shape_of_cell cell) p ≡ true → IsMember (shape_of_cell cell) p
  member_of cell e = (w, and_true (is_cube_point p) _ c e)

  -- all slices
  slices_show : (parts : List Part) (slices : List Slice) → AllZip (λ part s. IsTrue (is_slice z part.cell s)) parts slices → IsMember (shape_of_parts parts) p ↔ IsInSlices p slices
  slices_show [] [] h = (λ m. false_not_true (is_cube_point p && false) m.1 (none (is_cube_point p)), λ k. absurd k)
    where
      none : (b : Bool) → (b && false) ≡ false
      none true = refl
      none false = refl
  slices_show [] (s ∷ slices) h = absurd h
  slices_show (part ∷ parts) [] h = absurd h
  slices_show (part ∷ parts) (s ∷ slices) h =
      let here = slice_shows part.cell s h.0 in
      let rest = slices_show parts slices h.1 in (
        λ m. ⊎_elim
            (λ e. inl (here.0 (member_of part.cell e)))
            (λ e. inr (rest.0 (w, and_true (is_cube_point p) _ c e)))
            (or_cases (passes (shape_of_cell part.cell) p) (passes (shape_of_parts parts) p) (and_second (is_cube_point p) _ m.1)),
        λ k. (
          w,
          and_true (is_cube_point p) _ c (⊎_elim
              (λ i. or_left (passes (shape_of_cell part.cell) p) _ (and_second (is_cube_point p) _ (here.1 i).1))
              (λ i. or_right (passes (shape_of_cell part.cell) p) _ (and_second (is_cube_point p) _ (rest.1 i).1)) k),
        ),
      )

-- the law
pub slices_show_the_members_spec : SlicesShowTheMembers
slices_show_the_members_spec z parts slices hz h p w hp c = slices_show z hz p w hp c parts slices h
