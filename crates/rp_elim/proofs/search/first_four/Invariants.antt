use Rattle.std.proofs.Common.{◌≡◌, drop}
use Rattle.rp_geometry.specs.searches.Search.{first_of_quadruples}
use Rattle.rp_geometry.specs.searches.Elimination.{refutation_of_four}
use Rattle.rp_elim.proofs.search.first_four.Given as goal

-- the first of what is left is the first of all
abbrev pub invariant-loop-i : goal.invariant-loop-i
invariant-loop-i l = first_of_quadruples (refutation_of_four l.strict) (drop l.i l.es) ≡ first_of_quadruples (refutation_of_four l.strict) l.es
