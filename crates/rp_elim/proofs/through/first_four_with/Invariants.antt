use Rattle.std.proofs.Common.{◌≡◌, drop}
use Rattle.rp_geometry.specs.searches.Search.{first_of_pairs}
use Rattle.rp_geometry.specs.searches.Elimination.{refutation_of_four}
use Rattle.rp_elim.specs.HeldFast.{four_in_order}
use Rattle.rp_elim.specs.SignSets.{signs_of}
use Rattle.rp_elim.proofs.through.first_four_with.Given as goal

-- the first of what is left is the first of all, and the signs are those of what is left
abbrev pub invariant-loop-i : goal.invariant-loop-i
invariant-loop-i l = record {
  first : first_of_pairs (four_in_order (refutation_of_four l.strict) l.k l.p) (drop l.i l.qs) ≡ first_of_pairs (four_in_order (refutation_of_four l.strict) l.k l.p) l.qs;
  own : l.rest ≡ signs_of l.k l.p.half (drop l.i l.qs);
}
