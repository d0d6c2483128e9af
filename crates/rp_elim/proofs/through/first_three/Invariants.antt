use Rattle.std.proofs.Common.{◌≡◌, ◌++◌, length, drop}
use Rattle.rp_geometry.specs.searches.Search.{first_of_pairs}
use Rattle.rp_geometry.specs.searches.Elimination.{refutation_of_three}
use Rattle.rp_elim.specs.HeldFast.{three_in_order}
use Rattle.rp_elim.specs.SignSets.{signs_list}
use Rattle.rp_elim.proofs.through.first_three.Given as goal

-- the first of what is left is the first of all, and the signs so far stand before those of what is left
abbrev pub invariant-loop-i : goal.invariant-loop-i
invariant-loop-i g l = record {
  first : first_of_pairs (three_in_order (refutation_of_three l.strict) l.k) (drop l.i l.ps) ≡ first_of_pairs (three_in_order (refutation_of_three l.strict) l.k) l.ps;
  count : length l.signs.items ≡ l.i;
  signs : l.signs.items ++ signs_list l.k (drop l.i l.ps) ≡ signs_list l.k l.ps;
}
