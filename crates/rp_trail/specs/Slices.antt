-- The lines of slices that a report shows, each on its own.
use Rattle.std.specs.Prelude.{ℤ, List, map}
use Rattle.rp_geometry.specs.sets.Shape.{Part}
use Rattle.rp_semantics.specs.Walk.{Walk}
use Rattle.rp_model.specs.commands.Verdict.{Verdict}
use Rattle.rp_reports.specs.Text.{verdict_text}
use Rattle.rp_reports.specs.Check.{Trail, next_slice, slice_told, slices_told, follow_line, follow_lines}

-- takes the next line, which must be that of the slice shown of a part
abbrev pub follow_slice_line : ℤ → Part → Walk Trail (Unit {0})
follow_slice_line z p t = follow_line (verdict_text (Verdict.slice (slice_told z p.cell (next_slice t.lines)))) t.lines t

-- takes the next lines, which must be those of the slices shown of parts
abbrev pub follow_slice_lines : ℤ → List Part → Walk Trail (Unit {0})
follow_slice_lines z ps t = follow_lines (map verdict_text (map Verdict.slice (slices_told z ps t.lines))) t
