-- The lines of a section that a report shows.
use Rattle.std.specs.Prelude.{ℤ, List, map}
use Rattle.rp_geometry.specs.sets.Shape.{Part}
use Rattle.rp_semantics.specs.Walk.{Walk}
use Rattle.rp_model.specs.commands.Verdict.{section_lines}
use Rattle.rp_reports.specs.Text.{verdict_text}
use Rattle.rp_reports.specs.Check.{Trail, taken, slices_told, follow_lines}

-- takes the next lines, which must be the number of slices and the slices shown of parts
abbrev pub follow_section_lines : ℤ → List Part → Walk Trail (Unit {0})
follow_section_lines z ps t = follow_lines (map verdict_text (section_lines (slices_told z ps (taken t).lines))) t
