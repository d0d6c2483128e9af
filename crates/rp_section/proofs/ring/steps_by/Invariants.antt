use Rattle.std.proofs.Common.{◌≡◌, ◌++◌, length}
use Rattle.rp_section.specs.Sides.{side_steps}
use Rattle.rp_section.proofs.Listing.{steps_left}
use Rattle.rp_section.proofs.ring.steps_by.Given as goal

-- the steps so far, and those that are left
abbrev pub invariant-loop-i : goal.invariant-loop-i
invariant-loop-i l = record {
  all : l.steps ++ steps_left l.level l.other l.sides l.i ≡ side_steps l.level l.other l.sides;
  count : length l.steps ≡ l.i;
}
