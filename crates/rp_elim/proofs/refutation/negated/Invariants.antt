use Rattle.std.proofs.Common.{◌≡◌, take}
use Rattle.rp_geometry.specs.searches.Elimination.{negated_terms}
use Rattle.rp_elim.proofs.refutation.negated.Given as goal

abbrev pub invariant-loop-term : goal.invariant-loop-term
invariant-loop-term l = l.negated ≡ negated_terms (take l.term-index l.terms)
