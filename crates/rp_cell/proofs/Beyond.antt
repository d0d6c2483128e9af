-- The sides of a box that holds a cell: nothing of the cell is beyond them, and their lines are told one after the other.
use Rattle.std.proofs.Common.{◌≡◌, ℕ, zero, suc, ◌+◌, ◌<◌, ◌≤◌, ℤ, ◌*ℤ◌, ◌≤ℤ◌, ◌<ℤ◌, Bool, true, false, not, ◌&&◌, ◌||◌, List, [], ◌∷◌, ◌++◌, append_assoc, append-nil, length, get_or, drop, map, sym, ap, ◌∙◌, subst, arith}
use Rattle.std.specs.Prelude.{int_le, int_lt}
use Rattle.std.proofs.lemmas.Grind.{common_steps}
use Rattle.std.proofs.lemmas.Int.{ints}
use Rattle.std.proofs.lemmas.List.{map-append}
use Rattle.rp_algebra.proofs.Listed.{Listed, first, later, all_of, all_pass, listed_right}
use Rattle.rp_algebra.proofs.Lists.{drop_item}
use Rattle.rp_algebra.proofs.Tests.{and_true, at_most_true, false_not_true}
use Rattle.rp_geometry.specs.Geometry.{RationalPoint, HalfSpace, IntegerBox, IsHalfSpace, complement, holds, box_half_spaces, cube_half_spaces, is_between, is_box_in_bounds, is_in_box, is_listed}
use Rattle.rp_geometry.specs.sets.Shape.{shape_of_cell}
use Rattle.rp_geometry.specs.sets.Sets.{IsEmpty}
use Rattle.rp_geometry.specs.parts.LeastBox.{BoxHoldsCell, IsInBox}
use Rattle.rp_geometry.specs.parts.PartTest.{side_lines}
use Rattle.rp_geometry.specs.searches.Certificate.{Multiple}
use Rattle.rp_geometry.specs.searches.ProofLine.{ProofLine, out_line, outside_terms}
use Rattle.rp_geometry.proofs.Boxes.{box_holds}
use Rattle.rp_geometry.proofs.BoxSides.{box_bounds}
use Rattle.rp_geometry.proofs.Complement.{complement_holds_the_others_spec}
use Rattle.rp_convex.proofs.Held.{held_of, of_held, first_held, member_in_cell}
use Rattle.rp_cell.specs.Lines.{side_line_of}

-- an item of a list stands in it
pub stands : {A : Type 0} (xs : List A) (i : ℕ) (x : A) → i < length xs → x ≡ get_or xs i x → Listed x xs
stands [] i x h e = absurd (omega arith)
stands (y ∷ ys) zero x h e = subst (λ z. Listed z (y ∷ ys)) (sym e) first
stands (y ∷ ys) (suc i) x h e = later (stands ys i x (omega arith) e)

-- ---- what is beyond a side

-- a coordinate from the lower to below the upper number
between_true : (lo hi v w : ℤ) → ((lo *ℤ w) ≤ℤ v) × (v <ℤ (hi *ℤ w)) → is_between lo hi v w ≡ true
between_true lo hi v w (l, h) = and_true (int_le (lo *ℤ w) v) (int_lt v (hi *ℤ w)) (at_most_true (lo *ℤ w) v l) (below_true v (hi *ℤ w) h)
  where
    below_true : (a b : ℤ) → a <ℤ b → int_lt a b ≡ true
    below_true a b h = grind (arith, ints)

-- a point of a box passes the test
in_box_true : (b : IntegerBox) (p : RationalPoint) → IsInBox b p → is_in_box b p ≡ true
in_box_true b p k =
    and_true (is_between b.x1 b.x2 p.x p.w && is_between b.y1 b.y2 p.y p.w) (is_between b.z1 b.z2 p.z p.w)
    (and_true (is_between b.x1 b.x2 p.x p.w) (is_between b.y1 b.y2 p.y p.w) (between_true b.x1 b.x2 p.x p.w k.x) (between_true b.y1 b.y2 p.y p.w k.y))
    (between_true b.z1 b.z2 p.z p.w k.z)

-- no member of a cell is beyond a side of a box that holds it
pub none_beyond : (cell : List HalfSpace) (b : IntegerBox) (side : HalfSpace) → BoxHoldsCell b cell → is_box_in_bounds b ≡ true → Listed side (box_half_spaces b) → IsEmpty (shape_of_cell (cell ++ complement side ∷ []))
none_beyond cell b side box small l p m =
    let beyond = complement side ∷ [] in
    let k = held_of (cell ++ beyond) p m in
    let inside = of_held cell p (first_held cell beyond p k) in
    let within = all_pass (λ h. holds h p) (box_half_spaces b) (box_holds b p ∙ in_box_true b p (box p (member_in_cell cell p inside))) side l in
    let outside = complement_holds_the_others_spec side (all_of IsHalfSpace (box_half_spaces b) (box_bounds b small) side l) p k.point in
    false_not_true (holds (complement side) p) (k.each (complement side) (listed_right (complement side) cell beyond first)) (outside ∙ ap not within)

-- ---- the lines of the sides

-- the line of the rest, whether a side is told or not
abbrev told_or_not : List HalfSpace → HalfSpace → List ProofLine → Bool → List ProofLine
told_or_not cell side rest t = elim t [ true ↦ rest | false ↦ out_line (outside_terms true (cell ++ complement side ∷ [])) ∷ rest ]

-- the lines from one side on
lines_from : (cell sides : List HalfSpace) (i : ℕ) (side : HalfSpace) (t : Bool) → i < length sides → side ≡ get_or sides i side → t ≡ (is_listed side cell || is_listed side cube_half_spaces)
    → side_lines cell (drop i sides) ≡ told_or_not cell side (side_lines cell (drop (i + 1) sides)) t
lines_from cell sides i side t h e f = ap (side_lines cell) (drop_item sides i side h e) ∙ ap (told_or_not cell side (side_lines cell (drop (i + 1) sides))) (sym f)

-- a side that is in the cell or one of the cube's is not told
pub lines_given : (cell sides : List HalfSpace) (i : ℕ) (side : HalfSpace) (told all : List ProofLine) → i < length sides → side ≡ get_or sides i side
    → (is_listed side cell || is_listed side cube_half_spaces) ≡ true → told ++ side_lines cell (drop i sides) ≡ all → told ++ side_lines cell (drop (i + 1) sides) ≡ all
lines_given cell sides i side told all h e f k = ap (λ (rest : List ProofLine). told ++ rest) (sym (lines_from cell sides i side true h e (sym f))) ∙ k

-- every other side is told
pub lines_told : (cell sides : List HalfSpace) (i : ℕ) (side : HalfSpace) (proofs : List (List Multiple)) (terms : List Multiple) (all : List ProofLine) → i < length sides → side ≡ get_or sides i side
    → (is_listed side cell || is_listed side cube_half_spaces) ≡ false → terms ≡ outside_terms true (cell ++ complement side ∷ [])
    → map side_line_of proofs ++ side_lines cell (drop i sides) ≡ all → map side_line_of (proofs ++ terms ∷ []) ++ side_lines cell (drop (i + 1) sides) ≡ all
lines_told cell sides i side proofs terms all h e f g k =
    ap (λ (lines : List ProofLine). lines ++ side_lines cell (drop (i + 1) sides)) (map-append side_line_of proofs (terms ∷ []))
    ∙ append_assoc (map side_line_of proofs) (side_line_of terms ∷ []) (side_lines cell (drop (i + 1) sides))
    ∙ ap (λ (ts : List Multiple). map side_line_of proofs ++ out_line ts ∷ side_lines cell (drop (i + 1) sides)) g
    ∙ ap (λ (rest : List ProofLine). map side_line_of proofs ++ rest) (sym (lines_from cell sides i side false h e (sym f))) ∙ k

-- at the end all is told
pub lines_end : (cell sides : List HalfSpace) (i : ℕ) (told all : List ProofLine) → length sides ≤ i → told ++ side_lines cell (drop i sides) ≡ all → told ≡ all
lines_end cell sides i told all h e =
    let none : drop i sides ≡ [] = grind (arith, common_steps) in
    sym (append-nil told) ∙ sym (ap (λ (ks : List HalfSpace). told ++ side_lines cell ks) none) ∙ e
