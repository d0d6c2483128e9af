use Rattle.std.proofs.Common.{◌≡◌, drop}
use Rattle.rp_geometry.specs.searches.Search.{first_of_triples}
use Rattle.rp_geometry.specs.searches.Elimination.{refutation_of_four}
use Rattle.rp_elim.specs.HeldFast.{four_in_order}
use Rattle.rp_elim.proofs.through.first_four.Given as goal

-- the first of what is left is the first of all
abbrev pub invariant-loop-i : goal.invariant-loop-i
invariant-loop-i l = first_of_triples (four_in_order (refutation_of_four l.strict) l.k) (drop l.i l.ps) ≡ first_of_triples (four_in_order (refutation_of_four l.strict) l.k) l.ps
