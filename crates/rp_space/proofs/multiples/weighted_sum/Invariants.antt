use Rattle.std.proofs.Common.{◌≡◌, ◌*◌, ◌^◌, ◌≤◌, ◌+ℤ◌, drop, unsigned_abs}
use Rattle.rp_geometry.specs.searches.Certificate.{weighted_sum}
use Rattle.rp_space.specs.FourNumbers.{number_of}
use Rattle.rp_space.proofs.multiples.weighted_sum.Given as goal

abbrev pub invariant-loop-term : goal.invariant-loop-term
invariant-loop-term l = record {
  whole : l.sum +ℤ weighted_sum (number_of l.which) (drop l.term-index l.terms) ≡ weighted_sum (number_of l.which) l.terms;
  small : unsigned_abs l.sum ≤ l.term-index * (2 ^ 75 * (3 * 2 ^ 48));
}
