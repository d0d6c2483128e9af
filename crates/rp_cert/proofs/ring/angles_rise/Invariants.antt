use Rattle.std.proofs.Common.{◌≡◌, drop}
use Rattle.rp_geometry.specs.sections.Ring.{angles_rise}
use Rattle.rp_cert.proofs.ring.angles_rise.Given as goal

-- what is left rises where all does
abbrev pub invariant-loop-i : goal.invariant-loop-i
invariant-loop-i l = angles_rise (drop l.i l.steps) ≡ angles_rise l.steps
