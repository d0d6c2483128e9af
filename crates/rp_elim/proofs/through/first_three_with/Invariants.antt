use Rattle.std.proofs.Common.{◌≡◌, ◌≤◌, ◌-◌, length, drop}
use Rattle.rp_geometry.specs.searches.Search.{first_of}
use Rattle.rp_geometry.specs.searches.Elimination.{refutation_of_three}
use Rattle.rp_elim.specs.HeldFast.{three_in_order}
use Rattle.rp_elim.proofs.through.first_three_with.Given as goal

-- the first of what is left is the first of all
abbrev pub invariant-loop-place : goal.invariant-loop-place
invariant-loop-place l = record {
  within : l.from ≤ length l.qs;
  first : first_of (three_in_order (refutation_of_three l.strict) l.k l.p) (drop l.from l.qs) ≡ first_of (three_in_order (refutation_of_three l.strict) l.k l.p) l.qs;
}

-- how many are left
abbrev pub decreases-loop-place : goal.decreases-loop-place
decreases-loop-place l = length l.qs - l.from
