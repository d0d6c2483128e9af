use Rattle.std.proofs.Common.{◌≡◌, drop}
use Rattle.rp_geometry.specs.searches.Search.{first_of}
use Rattle.rp_geometry.specs.searches.Elimination.{refutation_of_three}
use Rattle.rp_elim.proofs.search.first_three_with_couple.Given as goal

-- the first of what is left is the first of all
abbrev pub invariant-loop-h : goal.invariant-loop-h
invariant-loop-h l = first_of (refutation_of_three l.strict l.couple.first l.couple.second) (drop l.h-index l.hs) ≡ first_of (refutation_of_three l.strict l.couple.first l.couple.second) l.hs
