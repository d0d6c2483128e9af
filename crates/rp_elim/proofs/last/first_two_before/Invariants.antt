use Rattle.std.proofs.Common.{◌≡◌, drop}
use Rattle.rp_geometry.specs.searches.Search.{first_of}
use Rattle.rp_geometry.specs.searches.Elimination.{refutation_of_two}
use Rattle.rp_elim.proofs.last.first_two_before.Given as goal

-- the first of what is left is the first of all
abbrev pub invariant-loop-g : goal.invariant-loop-g
invariant-loop-g l = first_of (λ g. refutation_of_two l.strict g l.h) (drop l.g-index l.gs) ≡ first_of (λ g. refutation_of_two l.strict g l.h) l.gs
