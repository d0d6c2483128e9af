use Rattle.std.proofs.Common.{◌≡◌, drop}
use Rattle.rp_geometry.specs.searches.Search.{first_of}
use Rattle.rp_geometry.specs.searches.Elimination.{refutation_of_two}
use Rattle.rp_elim.proofs.search.first_between.Given as goal

-- the first of what is left is the first of all
abbrev pub invariant-loop-g : goal.invariant-loop-g
invariant-loop-g l = first_of (λ g. first_of (refutation_of_two l.strict g) l.hs) (drop l.g-index l.gs) ≡ first_of (λ g. first_of (refutation_of_two l.strict g) l.hs) l.gs
