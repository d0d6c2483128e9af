-- Slimming keeps the members of a cell: a half-space is dropped only where no member of the others lies outside it.
use Rattle.std.proofs.Common.{◌≡◌, ⊎_elim, Bool, true, false, not, List, [], ◌∷◌, ◌++◌, append_assoc, append-nil, refl, sym, ap, ◌∙◌, subst}
use Rattle.rp_algebra.proofs.Listed.{Listed, first, later, all_of, of_all, all_map, all_append, listed_left, listed_right, listed_cases}
use Rattle.rp_geometry.specs.Geometry.{RationalPoint, HalfSpace, IsHalfSpace, IsKeptHalfSpace, complement, holds}
use Rattle.rp_geometry.specs.sets.Shape.{shape_of_cell}
use Rattle.rp_geometry.specs.sets.Sets.{IsNonempty}
use Rattle.rp_geometry.specs.searches.ProofLine.{drop_line, outside_terms}
use Rattle.rp_geometry.specs.parts.PartTest.{has_member, Slimmed, slim_from, slimmed, part_of}
use Rattle.rp_geometry.specs.laws.CellLaws.{AreHalfSpaces}
use Rattle.rp_geometry.specs.parts.Parts.{AreKeptHalfSpaces}
use Rattle.rp_geometry.specs.laws.PartLaws.{SlimKeepsMembers, SlimPartIsPart}
use Rattle.rp_geometry.proofs.Complement.{complement_holds_the_others_spec, complement_is_half_space}
use Rattle.rp_convex.proofs.InsideFound.{inside_is_found_spec}
use Rattle.rp_convex.proofs.Held.{IsHeld, held_of, of_held}
use Rattle.rp_parts.proofs.LeastBox.{least_box_is_least_spec}

-- the list of a cell without one half-space, and with its complement
abbrev pub others_of : List HalfSpace → HalfSpace → List HalfSpace → List HalfSpace
others_of kept h hs = kept ++ hs ++ complement h ∷ []

-- it keeps the bounds
others_bounded : (kept hs : List HalfSpace) (h : HalfSpace) → AreHalfSpaces kept → AreHalfSpaces (h ∷ hs) → AreHalfSpaces (others_of kept h hs)
others_bounded kept hs h a b = all_append IsHalfSpace (kept ++ hs) (complement h ∷ []) (all_append IsHalfSpace kept hs a b.1) (complement_is_half_space h b.0, tt)

-- where the others have no member outside it, a half-space may go
may_go : (kept hs : List HalfSpace) (h : HalfSpace) → AreHalfSpaces kept → AreHalfSpaces (h ∷ hs) → has_member (others_of kept h hs) ≡ false → (p : RationalPoint) → IsHeld (kept ++ hs) p → holds h p ≡ true
unfolding has_member
may_go kept hs h a b e p k = by_test (holds h p) refl
  where
    opposite : holds h p ≡ false → (g : HalfSpace) → Listed g (complement h ∷ []) → holds g p ≡ true
    opposite f g first = complement_holds_the_others_spec h b.0 p k.point ∙ ap not f
    opposite f g (later l) = elim l [ ]

    each : holds h p ≡ false → (g : HalfSpace) → Listed g (others_of kept h hs) → holds g p ≡ true
    each f g l = ⊎_elim (k.each g) (opposite f g) (listed_cases g (kept ++ hs) (complement h ∷ []) l)

    by_test : (t : Bool) → holds h p ≡ t → holds h p ≡ true
    by_test true f = f
    by_test false f = absurd ((inside_is_found_spec (others_of kept h hs) (others_bounded kept hs h a b)).none.0 e p
        (of_held (others_of kept h hs) p (record { point = k.point; in_cube = k.in_cube; each = each f })))

-- the same members, with no other half-spaces
record HaveSame (c d : List HalfSpace) : Type 0 where
  listed : (h : HalfSpace) → Listed h c → Listed h d
  there : (p : RationalPoint) → IsHeld c p → IsHeld d p
  back : (p : RationalPoint) → IsHeld d p → IsHeld c p

-- an item of a list stands in the list with one item more
listed_more : (g : HalfSpace) (kept hs : List HalfSpace) (h : HalfSpace) → Listed g (kept ++ hs) → Listed g (kept ++ h ∷ hs)
listed_more g kept hs h l = ⊎_elim (λ i. listed_left g kept (h ∷ hs) i) (λ i. listed_right g kept (h ∷ hs) (later i)) (listed_cases g kept hs l)

-- with or without a half-space that may go
with_one : (kept hs : List HalfSpace) (h : HalfSpace) → ((p : RationalPoint) → IsHeld (kept ++ hs) p → holds h p ≡ true) → (c : List HalfSpace) → HaveSame c (kept ++ hs) → HaveSame c (kept ++ h ∷ hs)
with_one kept hs h go c s = record { listed = λ g l. listed_more g kept hs h (s.listed g l); there = λ p k. more p (s.there p k); back = λ p k. s.back p (fewer p k) }
  where
    here : (p : RationalPoint) → IsHeld (kept ++ hs) p → (g : HalfSpace) → Listed g (h ∷ hs) → holds g p ≡ true
    here p k g first = go p k
    here p k g (later l) = k.each g (listed_right g kept hs l)

    more : (p : RationalPoint) → IsHeld (kept ++ hs) p → IsHeld (kept ++ h ∷ hs) p
    more p k = record { point = k.point; in_cube = k.in_cube; each = λ g l. ⊎_elim (λ i. k.each g (listed_left g kept hs i)) (here p k g) (listed_cases g kept (h ∷ hs) l) }

    fewer : (p : RationalPoint) → IsHeld (kept ++ h ∷ hs) p → IsHeld (kept ++ hs) p
    fewer p k = record { point = k.point; in_cube = k.in_cube; each = λ g l. ⊎_elim (λ i. k.each g (listed_left g kept (h ∷ hs) i)) (λ i. k.each g (listed_right g kept (h ∷ hs) (later i))) (listed_cases g kept hs l) }

-- the two outcomes of a step
abbrev chosen : Bool → Slimmed → Slimmed → Slimmed
chosen t stays goes = elim t [ true ↦ stays | false ↦ goes ]

-- one half-space, kept or dropped
slim_step : (kept hs : List HalfSpace) (h : HalfSpace) → AreHalfSpaces kept → AreHalfSpaces (h ∷ hs)
    → HaveSame (slim_from (kept ++ h ∷ []) hs).kept ((kept ++ h ∷ []) ++ hs) → HaveSame (slim_from kept hs).kept (kept ++ hs) → HaveSame (slim_from kept (h ∷ hs)).kept (kept ++ h ∷ hs)
slim_step kept hs h a b stays goes = by_test (has_member (others_of kept h hs)) refl
  where
    by_test : (t : Bool) → has_member (others_of kept h hs) ≡ t
        → HaveSame (chosen t (slim_from (kept ++ h ∷ []) hs) (record { kept = (slim_from kept hs).kept; lines = drop_line h (outside_terms true (others_of kept h hs)) ∷ (slim_from kept hs).lines })).kept (kept ++ h ∷ hs)
    by_test true e = subst (λ (c : List HalfSpace). HaveSame (slim_from (kept ++ h ∷ []) hs).kept c) (append_assoc kept (h ∷ []) hs) stays
    by_test false e = with_one kept hs h (may_go kept hs h a b e) (slim_from kept hs).kept goes

-- slimming keeps the members of what is kept already and what is to come
slim_same : (hs kept : List HalfSpace) → AreHalfSpaces kept → AreHalfSpaces hs → HaveSame (slim_from kept hs).kept (kept ++ hs)
slim_same [] kept a b = subst (λ (c : List HalfSpace). HaveSame kept c) (sym (append-nil kept)) (record { listed = λ h l. l; there = λ p k. k; back = λ p k. k })
slim_same (h ∷ hs) kept a b =
    slim_step kept hs h a b (slim_same hs (kept ++ h ∷ []) (all_append IsHalfSpace kept (h ∷ []) a (b.0, tt)) b.1) (slim_same hs kept a b.1)

-- the law
pub slim_keeps_members_spec : SlimKeepsMembers
unfolding slimmed
slim_keeps_members_spec cell k =
    let s = slim_same cell [] tt k in
    (λ p m. of_held cell p (s.there p (held_of (slimmed cell).kept p m)), λ p m. of_held (slimmed cell).kept p (s.back p (held_of cell p m)))

-- the law
pub slim_part_is_part_spec : SlimPartIsPart
unfolding slimmed part_of
slim_part_is_part_spec cell k few (p, m) =
    let plain = all_map IsKeptHalfSpace IsHalfSpace (λ h j. j.numbers) cell k in
    let s = slim_same cell [] tt plain in
    let kept : AreKeptHalfSpaces (slimmed cell).kept = of_all IsKeptHalfSpace (slimmed cell).kept (λ h l. all_of IsKeptHalfSpace cell k h (s.listed h l)) in
    let some : IsNonempty (shape_of_cell (slimmed cell).kept) = (p, of_held (slimmed cell).kept p (s.back p (held_of cell p m))) in
    record { half_spaces = kept; few = few; nonempty = some; box = least_box_is_least_spec (slimmed cell).kept (all_map IsKeptHalfSpace IsHalfSpace (λ h j. j.numbers) (slimmed cell).kept kept) some }
