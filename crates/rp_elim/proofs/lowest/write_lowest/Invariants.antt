use Rattle.std.proofs.Common.{◌≡◌, take, map}
use Rattle.rp_algebra.specs.Integer.{reduced_by}
use Rattle.rp_geometry.specs.searches.Elimination.{multiple_of}
use Rattle.rp_elim.proofs.lowest.write_lowest.Given as goal

abbrev pub invariant-loop-term : goal.invariant-loop-term
invariant-loop-term l = l.found ≡ map (λ t. multiple_of (reduced_by l.divisor t.factor) t.of) (take l.term-index l.terms)
