-- What is left of a part test of a cell with a member after some of its lines.
use Rattle.std.proofs.Common.{◌≡◌, ℕ, ◌<◌, ◌≤◌, Bool, true, false, List, [], ◌∷◌, ◌++◌, length, refl, sym, ap, ◌∙◌, append_assoc, subst, arith}
use Rattle.std.specs.Prelude.{nat_le, Option, Some, None, is_some}
use Rattle.std.proofs.lemmas.List.{append-nil}
use Rattle.rp_geometry.specs.Geometry.{RationalPoint, HalfSpace, box_half_spaces}
use Rattle.rp_geometry.specs.sets.Shape.{Part, shape_of_cell, shape_of_parts}
use Rattle.rp_geometry.specs.sets.Sets.{SameMembers}
use Rattle.rp_geometry.specs.searches.Vertex.{first_inside}
use Rattle.rp_geometry.specs.searches.ProofLine.{ProofLine, in_line, box_line, strict_line}
use Rattle.rp_geometry.specs.parts.LeastBox.{least_box}
use Rattle.rp_geometry.specs.parts.Parts.{most_half_spaces, IsPart}
use Rattle.rp_geometry.specs.parts.PartTest.{has_member, slimmed, part_lines, part_of, side_lines}
use Rattle.rp_semantics.specs.Walk.{Outcome, done, stopped, limit_met, Walk, pass, ◌>>=◌, Work, with_lines, part_test}
use Rattle.rp_geometry.proofs.SameMembers.{same_next}
use Rattle.rp_semantics.specs.FormLaws.{IsMadeOf}
use Rattle.rp_forms.proofs.Alike.{same_of_alike, one_part}
use Rattle.rp_region.specs.Makes.{IsCutShort, telling, OnlyTells}
use Rattle.rp_region.proofs.Grows.{pass_tells, then_tells}
use Rattle.rp_region.proofs.Left.{IsLeft, all_left, left_as, next_left, cut_left, end_left, given_up}

-- ---- lines

-- lines are told in any case
pub telling_tells : (lines : List ProofLine) → OnlyTells (telling lines)
telling_tells lines = record { tells = λ w. record { more = lines; lines = refl } }

-- the work after a line
line_told : (line : ProofLine) (w v : Work) → v ≡ with_lines w (line ∷ []) → telling (line ∷ []) w ≡ done tt v
line_told line w v e = ap (λ u. done tt u) (sym e)

-- lines are told one after the other
pub told_apart : {A : Type 0} (a b : List ProofLine) (next : Unit {0} → Walk Work A) → (telling (a ++ b) >>= next) ≡ (telling a >>= λ _. telling b >>= next)
told_apart a b next = λ i w. next tt (record { tests = w.tests; proofs = sym (append_assoc w.proofs a b) i })

-- the first line is told: the others are left
pub line_passed : {start now : Work} {whole : Walk Work (Unit {0})} (line : ProofLine) (lines : List ProofLine) (v : Work) → v ≡ with_lines now (line ∷ []) → IsLeft start whole now (telling (line ∷ lines)) → IsLeft start whole v (telling lines)
line_passed {now = now} line lines v e l =
    next_left (telling (line ∷ [])) (λ _. telling lines) (telling_tells (line ∷ [])) (left_as (told_apart (line ∷ []) lines (λ u. pass u)) l) (line_told line now v e)

-- no line is left
pub lines_ended : {start now : Work} {whole : Walk Work (Unit {0})} (lines : List ProofLine) → lines ≡ [] → IsLeft start whole now (telling lines) → whole start ≡ done tt now
lines_ended {now = now} lines e l = end_left (done tt now) (left_as (ap telling e) l) (λ i. done tt (record { tests = now.tests; proofs = append-nil now.proofs i }))

-- memory is wanting for the next line
pub lines_cut : {start now : Work} {whole : Walk Work (Unit {0})} (lines : List ProofLine) (v : Work) → v ≡ now → IsLeft start whole now (telling lines) → IsCutShort start v (whole start)
lines_cut {start = start} {whole = whole} lines v e l = subst (λ x. IsCutShort start x (whole start)) (sym e) (given_up (telling lines) (telling_tells lines) l)

-- ---- the part test of a cell with a member

-- where the cell has a member, the size of the slim cell decides
abbrev by_size : List HalfSpace → Bool → Walk Work (Option Part)
by_size cell b w = elim b [ true ↦ done (Some (part_of (slimmed cell))) (with_lines w (strict_line cell ∷ part_lines (slimmed cell))) | false ↦ stopped limit_met w ]

-- the cell has a member, as the search finds it
by_member : (cell : List HalfSpace) (points : List RationalPoint) → first_inside cell ≡ Some points → part_test cell ≡ by_size cell (nat_le (length (slimmed cell).kept) most_half_spaces)
unfolding part_test has_member
by_member cell points e = λ i w. elim (is_some (e i)) as (λ _. Outcome Work (Option Part)) [
  | false ↦ done None (with_lines w (strict_line cell ∷ []))
  | true ↦ by_size cell (nat_le (length (slimmed cell).kept) most_half_spaces) w
]

-- the slim cell is too long
pub part_too_long : (cell : List HalfSpace) (points : List RationalPoint) (w : Work) → first_inside cell ≡ Some points → most_half_spaces < length (slimmed cell).kept → part_test cell w ≡ stopped limit_met w
part_too_long cell points w e h = λ i. (by_member cell points e ∙ ap (by_size cell) (above (length (slimmed cell).kept) h)) i w
  where
    above : (m : ℕ) → most_half_spaces < m → nat_le m most_half_spaces ≡ false
    above m h = grind arith

-- the lines are told one after the other, and then the part is there
part_by_lines : (cell : List HalfSpace) (points : List RationalPoint) → first_inside cell ≡ Some points → in_line points ≡ strict_line cell → length (slimmed cell).kept ≤ most_half_spaces
    → part_test cell ≡ (telling ((in_line points ∷ (slimmed cell).lines) ++ box_line (least_box (slimmed cell).kept) ∷ side_lines (slimmed cell).kept (box_half_spaces (least_box (slimmed cell).kept))) >>= λ _. pass (Some (part_of (slimmed cell))))
unfolding part_lines
part_by_lines cell points e l h =
    by_member cell points e ∙ ap (by_size cell) (below (length (slimmed cell).kept) h)
    ∙ (λ i w. done (Some (part_of (slimmed cell))) (with_lines w (sym l i ∷ part_lines (slimmed cell))))
  where
    below : (m : ℕ) → m ≤ most_half_spaces → nat_le m most_half_spaces ≡ true
    below m h = grind arith

-- the part of a slim cell is made of the cell
pub made_of_slim : (cell slim : List HalfSpace) (p : Part) → p.cell ≡ slim → SameMembers (shape_of_cell slim) (shape_of_cell cell) → IsPart p → IsMadeOf IsPart cell (Some p)
made_of_slim cell slim p e s k = record {
  fact = k;
  members = same_next (shape_of_parts (p ∷ [])) (shape_of_cell p.cell) (shape_of_cell cell) (same_of_alike (shape_of_parts (p ∷ [])) (shape_of_cell p.cell) (λ x w i. one_part p x))
      (subst (λ hs. SameMembers (shape_of_cell hs) (shape_of_cell cell)) (sym e) s);
}

module _ (cell : List HalfSpace) (points : List RationalPoint) (found : first_inside cell ≡ Some points) (line : in_line points ≡ strict_line cell) (few : length (slimmed cell).kept ≤ most_half_spaces) where
  -- the lines of the member and of what was dropped
  abbrev found_lines : List ProofLine
  found_lines = in_line points ∷ (slimmed cell).lines

  -- the lines of the box and of its sides
  abbrev box_lines : List ProofLine
  box_lines = box_line (least_box (slimmed cell).kept) ∷ side_lines (slimmed cell).kept (box_half_spaces (least_box (slimmed cell).kept))

  -- the part, at the end
  abbrev at_end : Unit {0} → Walk Work (Option Part)
  at_end _ = pass (Some (part_of (slimmed cell)))

  -- it is there without a line
  at_end_tells : (u : Unit {0}) → OnlyTells (at_end u)
  at_end_tells u = pass_tells (Some (part_of (slimmed cell)))

  -- the lines of the box, and then the part
  abbrev then_box : Unit {0} → Walk Work (Option Part)
  then_box _ = telling box_lines >>= at_end

  -- the test has found a member: all lines are left
  found_left : (w : Work) → IsLeft w (part_test cell) w (telling found_lines >>= then_box)
  found_left w = left_as (part_by_lines cell points found line few ∙ told_apart found_lines box_lines at_end) (all_left w (part_test cell))

  -- the first are told: those of the box are left
  box_left : {w v : Work} → telling found_lines w ≡ done tt v → IsLeft w (part_test cell) v (telling box_lines >>= at_end)
  box_left {w = w} m = next_left (telling found_lines) then_box (telling_tells found_lines) (found_left w) m

  -- all are told: the part is there
  pub part_told : (w v x : Work) → telling found_lines w ≡ done tt v → telling box_lines v ≡ done tt x → part_test cell w ≡ done (Some (part_of (slimmed cell))) x
  part_told w v x m n = end_left (done (Some (part_of (slimmed cell))) x) (next_left (telling box_lines) at_end (telling_tells box_lines) (box_left m) n) refl

  -- memory is wanting for one of the first lines
  pub found_cut : (w v : Work) → IsCutShort w v (telling found_lines w) → IsCutShort w v (part_test cell w)
  found_cut w v k = cut_left (telling found_lines) then_box (λ _. then_tells (telling box_lines) at_end (telling_tells box_lines) at_end_tells) (found_left w) v k

  -- memory is wanting for one of those of the box
  pub box_cut : (w v x : Work) → telling found_lines w ≡ done tt v → IsCutShort v x (telling box_lines v) → IsCutShort w x (part_test cell w)
  box_cut w v x m k = cut_left (telling box_lines) at_end at_end_tells (box_left m) x k
