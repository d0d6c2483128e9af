use Rattle.std.proofs.Common.{◌≡◌, take, map}
use Rattle.rp_cert.specs.Section.{slice_shown}
use Rattle.rp_section.specs.Shown.{slices_of}
use Rattle.rp_section.proofs.slices.section.Given as goal

-- the slices of the parts so far
abbrev pub invariant-loop-part : goal.invariant-loop-part
invariant-loop-part l = map slice_shown l.slices.items ≡ slices_of l.z (take l.part-index l.parts)
