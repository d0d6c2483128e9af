use Rattle.std.proofs.Common.{ℕ, ◌<◌}
use Rattle.rp_access.proofs.Checked.{PassesAt}
use Rattle.rp_access.proofs.check.check_levels.Given as goal

abbrev pub invariant-loop-i : goal.invariant-loop-i
invariant-loop-i l = (k : ℕ) → k < l.i → PassesAt l.g l.to l.levels k
