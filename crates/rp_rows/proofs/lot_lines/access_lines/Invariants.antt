use Rattle.std.proofs.Common.{◌≡◌, ◌++◌, map, drop}
use Rattle.rp_rows.specs.Access.{told_access, told_levels}
use Rattle.rp_answer.specs.Views.{verdict_of}
use Rattle.rp_rows.proofs.lot_lines.access_lines.Given as goal

-- the lines so far and those of the levels still to come are all lines
abbrev pub invariant-loop-steps : goal.invariant-loop-steps
invariant-loop-steps l = map verdict_of l.lines.items ++ told_levels (drop l.steps-index l.steps-items) ≡ told_access l.access
