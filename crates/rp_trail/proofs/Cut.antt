-- The lines of a report, one after the other from its front.
use Rattle.std.proofs.Common.{◌≡◌, ℕ, ◌+◌, ◌<◌, List, [], ◌∷◌, length, take, drop, Option, Some, None, refl, ap, ◌∙◌, arith}
use Rattle.std.specs.List.{position, before_first, after_first, slice_split}
use Rattle.std.proofs.lemmas.List.Splits.{slice_split_none, slice_split_first, length-slice_split}
use Rattle.rp_language.proofs.Places.{position_or_len-at_some, all_fail-at_none}
use Rattle.rp_reports.specs.Output.{report_lines, whole_lines}
use Rattle.rp_trail.specs.Lines.{lines_left, is_line_end}
use denote.Ref.{Bor}

-- each piece but the last is a line
whole_lines-cons : (piece : List ℕ) (pieces : List (List ℕ)) → 0 < length pieces → whole_lines (piece ∷ pieces) ≡ piece ∷ whole_lines pieces
whole_lines-cons piece [] h = absurd (omega arith)
whole_lines-cons piece (next ∷ pieces) h = refl

-- the first line of a text ends at its first line end, and the others are those of what stands behind it
pub lines-at_end : (text : List ℕ) (i : ℕ) → position is_line_end text ≡ Some i → report_lines text ≡ take i text ∷ report_lines (drop (i + 1) text)
unfolding report_lines
lines-at_end text i e =
    let place = position_or_len-at_some is_line_end text i e in
    let first = slice_split_first is_line_end text 0 (omega (arith, place.0, place.1)) in
    let more : 0 < length (slice_split is_line_end (after_first is_line_end text)) = omega (arith, length-slice_split is_line_end (after_first is_line_end text)) in
    ap whole_lines first
    ∙ whole_lines-cons (before_first is_line_end text) (slice_split is_line_end (after_first is_line_end text)) more
    ∙ ap (λ n. take n text ∷ whole_lines (slice_split is_line_end (drop (n + 1) text))) place.1

-- a text with no line end is one line
pub lines-no_end : (text : List ℕ) → 0 < length text → position is_line_end text ≡ None → report_lines text ≡ text ∷ []
unfolding report_lines
lines-no_end [] h e = absurd (omega arith)
lines-no_end (b ∷ bs) h e = ap whole_lines (slice_split_none is_line_end (b ∷ bs) (all_fail-at_none is_line_end (b ∷ bs) e).1)

-- an empty text has no line
pub lines-nil : report_lines [] ≡ []
unfolding report_lines
lines-nil = refl

-- ---- the next line and those behind it

-- the lines behind it are those of the bytes behind it
pub lines_behind : (line : Option (Bor (List ℕ))) (rest : List ℕ) → 0 < length (lines_left line rest) → report_lines rest ≡ drop 1 (lines_left line rest)
lines_behind None rest h = absurd (omega arith)
lines_behind (Some line) rest h = refl
