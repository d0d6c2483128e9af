use Rattle.std.proofs.Common.{◌≡◌, ◌≤◌, ◌-◌, length, drop}
use Rattle.rp_geometry.specs.searches.Search.{first_of}
use Rattle.rp_geometry.specs.searches.Elimination.{refutation_of_four}
use Rattle.rp_elim.specs.HeldFast.{four_in_order}
use Rattle.rp_elim.proofs.through.first_four_with_triple.Given as goal

-- the first of what is left is the first of all
abbrev pub invariant-loop-place : goal.invariant-loop-place
invariant-loop-place l = record {
  within : l.from ≤ length l.rs;
  first : first_of (four_in_order (refutation_of_four l.strict) l.k l.p l.q) (drop l.from l.rs) ≡ first_of (four_in_order (refutation_of_four l.strict) l.k l.p l.q) l.rs;
}

-- how many are left
abbrev pub decreases-loop-place : goal.decreases-loop-place
decreases-loop-place l = length l.rs - l.from
