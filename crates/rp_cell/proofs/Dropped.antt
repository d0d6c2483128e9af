-- What shows that a half-space adds nothing to the others of a cell, or that it does.
use Rattle.std.proofs.Common.{◌≡◌, ℕ, zero, suc, ◌+◌, ◌<◌, ◌≤◌, pos, ◌<ℤ◌, ⊎_elim, Bool, true, false, List, [], ◌∷◌, ◌++◌, length, take, drop, refl, sym, ap, ◌∙◌, subst, arith, append-nil}
use Rattle.std.specs.Prelude.{Option, Some, None, IsNone, is_some, unwrap_or, ◌↔◌}
use Rattle.rp_algebra.proofs.Listed.{Listed, first, later, all_of, of_all, pass_all, listed_left, listed_right, listed_cases, listed_at}
use Rattle.std.proofs.lemmas.List.{length-drop}
use Rattle.std.proofs.lemmas.Option.{slice_get_within}
use Rattle.rp_algebra.specs.Integer.{is_positive}
use Rattle.rp_algebra.proofs.Tests.{is_positive_true}
use Rattle.rp_algebra.proofs.Options.{same_some}
use Rattle.rp_geometry.specs.Geometry.{RationalPoint, HalfSpace, IsHalfSpace, side_value, complement, with_cube, cube_half_spaces}
use Rattle.rp_geometry.specs.sets.Shape.{shape_of_cell}
use Rattle.rp_geometry.specs.sets.Sets.{IsNonempty}
use Rattle.rp_geometry.specs.laws.CellLaws.{AreHalfSpaces, IsSolution}
use Rattle.rp_geometry.specs.searches.Certificate.{Multiple}
use Rattle.rp_geometry.specs.searches.Elimination.{first_outside}
use Rattle.rp_geometry.specs.searches.Vertex.{first_inside}
use Rattle.rp_geometry.specs.parts.PartTest.{has_member}
use Rattle.rp_geometry.proofs.Complement.{complement_is_half_space}
use Rattle.rp_convex.proofs.Inside.{member_moves_inside_spec}
use Rattle.rp_convex.proofs.InsideFound.{strict_of, inside_some, inside_is_found_spec}
use Rattle.rp_convex.proofs.Standing.{listed_contains, contains_listed}
use Rattle.rp_clip.specs.Faces.{HasSide}
use Rattle.rp_cell.specs.Slimming.{tested, IsTested, IsDropProof}
use Rattle.rp_cell.proofs.Across.{across, across_point, complement_across, positive_across}

-- ---- the half-spaces of the tested cell

-- an item of a front stands in the list
pub of_front : {A : Type 0} (n : ℕ) (xs : List A) (x : A) → Listed x (take n xs) → Listed x xs
of_front zero xs x l = elim l [ ]
of_front (suc n) [] x l = elim l [ ]
of_front (suc n) (y ∷ ys) x first = first
of_front (suc n) (y ∷ ys) x (later l) = later (of_front n ys x l)

-- and so does one of a rest
pub of_rest : {A : Type 0} (n : ℕ) (xs : List A) (x : A) → Listed x (drop n xs) → Listed x xs
of_rest zero xs x l = l
of_rest (suc n) [] x l = elim l [ ]
of_rest (suc n) (y ∷ ys) x l = later (of_rest n ys x l)

-- where the others stand: before the place, or behind it
record StandAround (cell : List HalfSpace) (place : ℕ) (g : HalfSpace) : Type 0 where
  pub around : Listed g (take place cell ++ drop (place + 1) cell)
  pub in_cell : Listed g cell

-- each half-space of the others does
others_around : (cell : List HalfSpace) (place : ℕ) (kept : List HalfSpace) (h : HalfSpace) (rest : List HalfSpace) → IsTested cell place kept h rest → (g : HalfSpace) → Listed g (kept ++ rest) → StandAround cell place g
others_around cell place kept h rest k g l = ⊎_elim
    (λ (m : Listed g kept). let n = contains_listed g (take place cell) (k.kept g (listed_contains g kept m)) in record { around = listed_left g (take place cell) (drop (place + 1) cell) n; in_cell = of_front place cell g n })
    (λ (m : Listed g rest). let n = subst (λ (hs : List HalfSpace). Listed g hs) k.rest m in record { around = listed_right g (take place cell) (drop (place + 1) cell) n; in_cell = of_rest (place + 1) cell g n })
    (listed_cases g kept rest l)

-- the tested cell is of half-spaces
pub tested_bounds : (cell : List HalfSpace) (place : ℕ) (kept : List HalfSpace) (h : HalfSpace) (rest : List HalfSpace) → AreHalfSpaces cell → IsTested cell place kept h rest → AreHalfSpaces (tested kept h rest)
tested_bounds cell place kept h rest b k = of_all IsHalfSpace (tested kept h rest) (λ g l. ⊎_elim
    (λ (m : Listed g (kept ++ rest)). all_of IsHalfSpace cell b g (others_around cell place kept h rest k g m).in_cell)
    (λ (m : Listed g (complement h ∷ [])). is_complement g m)
    (listed_cases g (kept ++ rest) (complement h ∷ []) l))
  where
    is_complement : (g : HalfSpace) → Listed g (complement h ∷ []) → IsHalfSpace g
    is_complement g first = complement_is_half_space h (all_of IsHalfSpace cell b h (listed_at h cell place k.at))
    is_complement g (later l) = elim l [ ]

-- ---- a side of its own

-- where a half-space has a side of its own, a member of the others lies outside it
pub side_has_member : (cell : List HalfSpace) (place : ℕ) (kept : List HalfSpace) (h : HalfSpace) (rest : List HalfSpace) → AreHalfSpaces cell → AreHalfSpaces cube_half_spaces → IsTested cell place kept h rest → HasSide cell place → has_member (tested kept h rest) ≡ true
unfolding has_member
side_has_member cell place kept h rest b c k s = inside_some (tested kept h rest) (across h s.point) (record { point = across_point h s.point s.is_point; sides = sides })
  where
    half : IsHalfSpace h
    half = all_of IsHalfSpace cell b h (listed_at h cell place k.at)

    on : side_value h s.point ≡ pos 0
    on = subst (λ (g : HalfSpace). side_value g s.point ≡ pos 0) (same_some s.half h (sym s.at ∙ k.at)) s.on

    other : (g : HalfSpace) → IsHalfSpace g → Listed g (take place cell ++ drop (place + 1) cell ++ cube_half_spaces) → pos 0 <ℤ side_value g (across h s.point)
    other g i l = positive_across g h s.point i half (s.inside g (listed_contains g (take place cell ++ drop (place + 1) cell ++ cube_half_spaces) l))

    complement_there : (g : HalfSpace) → Listed g (complement h ∷ []) → pos 0 <ℤ side_value g (across h s.point)
    complement_there g first = complement_across h s.point half s.is_point on
    complement_there g (later l) = elim l [ ]

    sides : (g : HalfSpace) → Listed g (with_cube (tested kept h rest)) → pos 0 <ℤ side_value g (across h s.point)
    sides g l = ⊎_elim
        (λ (m : Listed g (tested kept h rest)). ⊎_elim
        (λ (n : Listed g (kept ++ rest)). let r = others_around cell place kept h rest k g n in
        other g (all_of IsHalfSpace cell b g r.in_cell) (listed_left g (take place cell ++ drop (place + 1) cell) cube_half_spaces r.around))
        (λ (n : Listed g (complement h ∷ [])). complement_there g n)
        (listed_cases g (kept ++ rest) (complement h ∷ []) m))
        (λ (m : Listed g cube_half_spaces). other g (all_of IsHalfSpace cube_half_spaces c g m) (listed_right g (take place cell ++ drop (place + 1) cell) cube_half_spaces m))
        (listed_cases g (tested kept h rest) cube_half_spaces l)

-- ---- a refutation

-- a cell with a strict solution has a member
solution_is_member : (cell : List HalfSpace) → ((p : RationalPoint) × IsSolution true cell p) → has_member cell ≡ true
unfolding has_member
solution_is_member cell s = inside_some cell s.0 (strict_of cell s.0 s.1.0 s.1.1)

-- the first refutation of a cell, and none where it has a member
pub refutation_says : (cell : List HalfSpace) (o : Option (List Multiple)) → AreHalfSpaces cell → o ≡ first_outside true cell → (IsNone o ↔ ((p : RationalPoint) × IsSolution true cell p)) → IsDropProof cell o
unfolding has_member
refutation_says cell None b e n = solution_is_member cell (n.0 refl)
refutation_says cell (Some terms) b e n = (by_search (is_some (first_inside cell)) refl, ap (λ (o : Option (List Multiple)). unwrap_or o []) e)
  where
    some_not_none : IsNone (Some terms) → ⊥
    some_not_none f = cc

    by_search : (t : Bool) → is_some (first_inside cell) ≡ t → is_some (first_inside cell) ≡ false
    by_search false f = f
    by_search true f = let m = (inside_is_found_spec cell b).some.0 f in absurd (some_not_none (n.1 (member_moves_inside_spec cell b m)))

-- ---- the sizes, and a point of the others

-- the place is one of the cell
pub tested_below : (cell : List HalfSpace) (place : ℕ) (kept : List HalfSpace) (h : HalfSpace) (rest : List HalfSpace) → IsTested cell place kept h rest → place < length cell
tested_below cell place kept h rest k = slice_get_within cell place h k.at

-- there are fewer others than half-spaces
fewer_others : (cell : List HalfSpace) (place : ℕ) (kept : List HalfSpace) (h : HalfSpace) (rest : List HalfSpace) → length cell ≤ 64 → IsTested cell place kept h rest → length kept + length rest < 64
fewer_others cell place kept h rest few k =
    omega (arith, few, k.few, tested_below cell place kept h rest k, ap (λ (hs : List HalfSpace). length hs) k.rest, length-drop (place + 1) cell)

-- the same of the cell as it is read
pub fewer_here : (halves cell : List HalfSpace) (place : ℕ) (kept : List HalfSpace) (h : HalfSpace) (rest : List HalfSpace) → halves ≡ cell → length halves ≤ 64 → IsTested cell place kept h rest → length kept + length rest < 64
fewer_here halves cell place kept h rest e few k = fewer_others cell place kept h rest (subst (λ (hs : List HalfSpace). length hs ≤ 64) e few) k

-- where the cell has a member, the others have a point strictly inside
pub others_have : (cell : List HalfSpace) (place : ℕ) (kept : List HalfSpace) (h : HalfSpace) (rest others : List HalfSpace) → AreHalfSpaces cell → IsNonempty (shape_of_cell cell) → IsTested cell place kept h rest → others ≡ kept ++ rest
    → (p : RationalPoint) × IsSolution true (others ++ []) p
others_have cell place kept h rest others b n k e =
    let s = member_moves_inside_spec cell b n in
    let inside = strict_of cell s.0 s.1.0 s.1.1 in
    subst (λ (hs : List HalfSpace). (p : RationalPoint) × IsSolution true hs p) (sym (append-nil others ∙ e)) (
      s.0,
      (
        s.1.0,
        pass_all (λ g. is_positive (side_value g s.0)) (with_cube (kept ++ rest)) (λ g l. is_positive_true (side_value g s.0) (⊎_elim
            (λ (m : Listed g (kept ++ rest)). inside.sides g (listed_left g cell cube_half_spaces (others_around cell place kept h rest k g m).in_cell))
            (λ (m : Listed g cube_half_spaces). inside.sides g (listed_right g cell cube_half_spaces m))
            (listed_cases g (kept ++ rest) cube_half_spaces l))),
      ),
    )
