use Rattle.std.proofs.Common.{◌≡◌, ◌-◌, ◌≤◌, drop, length}
use Rattle.arrayvec.specs.ArrayVec.{array_vec_len}
use Rattle.rp_section.specs.Sides.{bounds_of}
use Rattle.rp_section.proofs.side.bounds_of.Given as goal

-- those among the last few sides
abbrev pub invariant-loop-behind : goal.invariant-loop-behind
invariant-loop-behind l = record {
  items : l.bounds.items ≡ bounds_of l.level l.sides (drop (length l.sides - l.behind) l.sides);
  few : array_vec_len l.bounds ≤ l.behind;
}
