use Rattle.std.proofs.Common.{◌≡◌, ◌≤◌, true, false, length, drop}
use Rattle.rp_space.specs.Places.{bits_of}
use Rattle.rp_elim.specs.SignSets.{weight_has}
use Rattle.rp_elim.proofs.sign_sets.Signs.new.Given as goal

-- the sets of those behind
abbrev pub invariant-loop-i : goal.invariant-loop-i
invariant-loop-i l = record {
  within : l.i ≤ length l.qs;
  above : l.above ≡ bits_of (weight_has true l.kp.first l.kp.second) (drop l.i l.qs);
  below : l.below ≡ bits_of (weight_has false l.kp.first l.kp.second) (drop l.i l.qs);
}

-- the place
abbrev pub decreases-loop-i : goal.decreases-loop-i
decreases-loop-i l = l.i
