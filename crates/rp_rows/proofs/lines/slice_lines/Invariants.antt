use Rattle.std.proofs.Common.{◌≡◌, ◌++◌, map}
use Rattle.std.specs.Vec.Iter.{into_iter_items}
use Rattle.rp_model.specs.commands.Verdict.{Verdict, section_lines}
use Rattle.rp_answer.specs.Views.{verdict_of}
use Rattle.rp_cert.specs.Section.{slice_shown}
use Rattle.rp_rows.proofs.lines.slice_lines.Given as goal

-- the lines so far and those of the slices still to come are all lines
abbrev pub invariant-loop-slice : goal.invariant-loop-slice
invariant-loop-slice l = map verdict_of l.lines.items ++ map Verdict.slice (map slice_shown (into_iter_items l.slice-iterator)) ≡ section_lines (map slice_shown l.fn.slices.items)
