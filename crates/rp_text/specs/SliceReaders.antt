-- Readers of lines that show slices.
use Rattle.std.specs.Prelude.{ℕ, ℤ, List, length, Option, None, codes, option_map, option_and_then}
use Rattle.rp_geometry.specs.Geometry.{RationalPoint}
use Rattle.rp_geometry.specs.searches.Certificate.{Multiple}
use Rattle.rp_geometry.specs.sections.Trace.{Trace, trace_of}
use Rattle.rp_geometry.specs.sections.Ring.{RingStep}
use Rattle.rp_geometry.specs.sections.Flat.{is_one_to_three}
use Rattle.rp_geometry.specs.sections.Slice.{Slice, ring, flat}
use Rattle.rp_language.specs.Grammar.{space}
use Rattle.rp_reports.specs.SliceText.{is_written_trace, is_three_to_36}
use Rattle.rp_text.specs.Readers.{Taker, ◌>>=◌, gives, gives_some, kept_if, the_word, number_before, point, term, spaced_item, items, few_items, behind_or}

-- reads three numbers in parentheses, with one space between each two
unfoldable pub three_numbers : Taker (ℤ × ℤ × ℤ)
three_numbers = the_word (codes "(") >>= λ _. number_before space >>= λ a. number_before space >>= λ b. number_before 41 >>= λ d. gives (a, b, d)

-- the edge, if it is within its bounds
abbrev pub written_edge : Trace → Option Trace
written_edge t = kept_if (is_written_trace t) t

-- reads an edge within its bounds
unfoldable pub edge : Taker Trace
edge = three_numbers >>= λ q. gives_some (written_edge (trace_of q.0 q.1 q.2))

-- the step of an edge and its end
abbrev pub step_of : Trace → RationalPoint → RingStep
step_of t p = record { edge = t; end = p }

-- reads a step: an edge, a space, and its end
unfoldable pub step : Taker RingStep
step = edge >>= λ t. spaced_item point >>= λ p. gives (step_of t p)

-- the steps, if there are 3 to 36
abbrev pub if_ring : List RingStep → Option (List RingStep)
if_ring steps = kept_if (is_three_to_36 (length steps)) steps

-- reads the steps of a ring, each after a space, up to the end of the text
abbrev pub ring_steps : List ℕ → Option (List RingStep)
ring_steps line = option_and_then if_ring (items step 36 line)

-- the multiples, if there are 1 to 3
abbrev pub if_flat : List Multiple → Option (List Multiple)
if_flat terms = kept_if (is_one_to_three (length terms)) terms

-- reads the multiples of a flat certificate, each after a space, up to the end of the text
abbrev pub flat_terms : List ℕ → Option (List Multiple)
flat_terms line = option_and_then if_flat (few_items term line)

-- reads a slice, by the word that begins it
unfoldable pub slice : List ℕ → Option Slice
slice line = behind_or (codes "= ring") line (λ rest. option_map ring (ring_steps rest)) (behind_or (codes "= flat") line (λ rest. option_map flat (flat_terms rest)) None)
