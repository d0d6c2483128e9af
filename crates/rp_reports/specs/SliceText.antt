-- Reading a line that shows a slice: a line is read iff it has the one spelling.
use Rattle.std.specs.Prelude.{ℕ, Bool, true, false, ◌&&◌, nat_le, ℤ, pos, List, [], ◌∷◌, length, Option, Some, None, codes, option_and_then}
use Rattle.std.specs.List.{list_all}
use Rattle.rp_geometry.specs.Geometry.{point_of, is_within_bound, cube_bound}
use Rattle.rp_geometry.specs.sections.Trace.{Trace, trace_of}
use Rattle.rp_geometry.specs.sections.Ring.{RingStep}
use Rattle.rp_geometry.specs.sections.Flat.{is_one_to_three}
use Rattle.rp_geometry.specs.sections.Slice.{Slice, ring, flat}
use Rattle.rp_language.specs.Name.{label_eq}
use Rattle.rp_language.specs.Grammar.{Word}
use Rattle.rp_model.specs.commands.Verdict.{Verdict}
use Rattle.rp_reports.specs.Text.{verdict_text}
use Rattle.rp_reports.specs.ProofText.{is_written_point, is_written_multiple, loose_words, cons_some, numbers_spelled, terms_of_numbers, map_some}

-- ---- the values in such a line

-- the greatest absolute value of the third number of an edge, 2 ^ 50
abbrev pub trace_bound : ℤ
trace_bound = pos 1125899906842624

-- an edge within its bounds
abbrev pub is_written_trace : Trace → Bool
is_written_trace t = is_within_bound cube_bound t.a && is_within_bound cube_bound t.b && is_within_bound trace_bound t.d

-- a step of a ring whose edge and end are within their bounds
abbrev pub is_written_step : RingStep → Bool
is_written_step s = is_written_trace s.edge && is_written_point s.end

-- the number is from 3 to 36
abbrev pub is_three_to_36 : ℕ → Bool
is_three_to_36 n = nat_le 3 n && nat_le n 36

-- a slice whose values are within their bounds
unfoldable pub is_written_slice : Slice → Bool
is_written_slice (ring steps) = is_three_to_36 (length steps) && list_all is_written_step steps
is_written_slice (flat terms) = is_one_to_three (length terms) && list_all is_written_multiple terms

-- ---- reading

-- the steps of groups of seven numbers; none if the numbers do not divide
abbrev pub steps_of_numbers : List ℤ → Option (List RingStep)
steps_of_numbers [] = Some []
steps_of_numbers (a ∷ b ∷ d ∷ x ∷ y ∷ z ∷ w ∷ vs) = cons_some (Some (record { edge = trace_of a b d; end = point_of x y z w })) (steps_of_numbers vs)
steps_of_numbers _ = None

-- the slice of a word and the numbers after it
abbrev pub slice_of_kind : Word → List ℤ → Option Slice
slice_of_kind kind vs =
    elim (label_eq kind (codes "ring")) [
      | true ↦ map_some ring (steps_of_numbers vs)
      | false ↦ elim (label_eq kind (codes "flat")) [ true ↦ map_some flat (terms_of_numbers vs) | false ↦ None ]
    ]

-- the slice of loose words, after the mark of a verdict line
abbrev pub slice_of_words : List Word → Option Slice
slice_of_words (mark ∷ kind ∷ words) = option_and_then (slice_of_kind kind) (numbers_spelled words)
slice_of_words _ = None

-- the slice, if its values are within their bounds and its text is exactly the line
abbrev pub slice_if_spelled : List ℕ → Slice → Option Slice
slice_if_spelled line s = elim (is_written_slice s && label_eq (verdict_text (Verdict.slice s)) line) [ true ↦ Some s | false ↦ None ]

-- the slice that a report line spells; none if it spells none
unfoldable pub slice_read : List ℕ → Option Slice
slice_read line = option_and_then (slice_if_spelled line) (slice_of_words (loose_words line))
