use Rattle.std.proofs.Common.{◌≡◌, ◌+◌, ◌≤◌, ◌++◌, take}
use Rattle.arrayvec.specs.ArrayVec.{array_vec_len}
use Rattle.rp_section.specs.Sides.{sides_of}
use Rattle.rp_section.proofs.side.extend.Given as goal

-- the sides so far stand behind the first ones
abbrev pub invariant-loop-half : goal.invariant-loop-half
invariant-loop-half l = record {
  items : l.sides.items ≡ l.initial.sides.items ++ sides_of l.z (take l.half-index l.halves);
  few : array_vec_len l.sides ≤ array_vec_len l.initial.sides + l.half-index;
}
