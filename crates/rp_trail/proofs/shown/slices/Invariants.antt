use Rattle.std.proofs.Common.{◌≡◌, ◌++◌, map, drop}
use Rattle.rp_reports.specs.Check.{slices_told}
use Rattle.rp_cert.specs.Section.{slice_shown}
use Rattle.rp_checker_completeness.proofs.Shown.{follow_each}
use Rattle.rp_trail.specs.Slices.{follow_slice_lines}
use Rattle.rp_oracle.proofs.Left.{IsLeft}
use Rattle.rp_trail.proofs.shown.slices.Given as goal

-- the lines of the parts still to come are left, and so are their slices
abbrev pub invariant-loop-part : goal.invariant-loop-part
invariant-loop-part l =
    IsLeft l.initial.trail (follow_slice_lines l.z l.form.items) l.trail (follow_each l.z (drop l.part-index l.form.items))
    × (map slice_shown l.slices.items ++ slices_told l.z (drop l.part-index l.form.items) l.trail.lines ≡ slices_told l.z l.form.items l.initial.trail.lines)
