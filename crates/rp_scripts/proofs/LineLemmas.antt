-- The lines of a script, one after the other from its front.
use Rattle.std.proofs.Common.{◌≡◌, ℕ, ◌+◌, ◌<◌, List, [], ◌∷◌, length, take, drop, Some, None, refl, ap, ◌∙◌, arith}
use Rattle.std.specs.List.{position, before_first, after_first, slice_split}
use Rattle.std.proofs.lemmas.List.Splits.{slice_split_none, slice_split_first, length-slice_split}
use Rattle.rp_language.proofs.Places.{position_or_len-at_some, all_fail-at_none}
use Rattle.rp_reports.specs.Report.{script_lines, lines_of_pieces, without_return}
use Rattle.rp_scripts.specs.Lines.{is_line_end}

-- each piece but the last loses its carriage return
pub lines_of_pieces-cons : (piece : List ℕ) (pieces : List (List ℕ)) → 0 < length pieces → lines_of_pieces (piece ∷ pieces) ≡ without_return piece ∷ lines_of_pieces pieces
lines_of_pieces-cons piece [] h = absurd (omega arith)
lines_of_pieces-cons piece (next ∷ pieces) h = refl

-- the first line of a script ends at its first line end, and the others are those of what stands behind it
pub script_lines-at_end : (script : List ℕ) (i : ℕ) → position is_line_end script ≡ Some i → script_lines script ≡ without_return (take i script) ∷ script_lines (drop (i + 1) script)
unfolding script_lines
script_lines-at_end script i e =
    let place = position_or_len-at_some is_line_end script i e in
    let first = slice_split_first is_line_end script 0 (omega (arith, place.0, place.1)) in
    let more : 0 < length (slice_split is_line_end (after_first is_line_end script)) = omega (arith, length-slice_split is_line_end (after_first is_line_end script)) in
    ap lines_of_pieces first
    ∙ lines_of_pieces-cons (before_first is_line_end script) (slice_split is_line_end (after_first is_line_end script)) more
    ∙ ap (λ n. without_return (take n script) ∷ lines_of_pieces (slice_split is_line_end (drop (n + 1) script))) place.1

-- a script with no line end is one line
pub script_lines-no_end : (script : List ℕ) → 0 < length script → position is_line_end script ≡ None → script_lines script ≡ script ∷ []
unfolding script_lines
script_lines-no_end [] h e = absurd (omega arith)
script_lines-no_end (b ∷ bs) h e = ap lines_of_pieces (slice_split_none is_line_end (b ∷ bs) (all_fail-at_none is_line_end (b ∷ bs) e).1)

-- an empty script has no line
pub script_lines-nil : script_lines [] ≡ []
unfolding script_lines
script_lines-nil = refl
