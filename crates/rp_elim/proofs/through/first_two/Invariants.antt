use Rattle.std.proofs.Common.{◌≡◌, drop}
use Rattle.rp_geometry.specs.searches.Search.{first_of}
use Rattle.rp_geometry.specs.searches.Elimination.{refutation_of_two}
use Rattle.rp_elim.specs.HeldFast.{two_in_order}
use Rattle.rp_elim.proofs.through.first_two.Given as goal

-- the first of what is left is the first of all
abbrev pub invariant-loop-p : goal.invariant-loop-p
invariant-loop-p l = first_of (two_in_order (refutation_of_two l.strict) l.k) (drop l.p-index l.ps) ≡ first_of (two_in_order (refutation_of_two l.strict) l.k) l.ps
