use Rattle.std.proofs.Common.{◌≡◌, ◌*◌, ◌^◌, ◌≤◌, ◌+ℤ◌, drop, unsigned_abs}
use Rattle.rp_geometry.specs.searches.Certificate.{weighted_sum}
use Rattle.rp_cert.specs.LevelNumbers.{number_at}
use Rattle.rp_cert.proofs.flat.weighted_sum.Given as goal

abbrev pub invariant-loop-term : goal.invariant-loop-term
invariant-loop-term l = record {
  whole : l.sum +ℤ weighted_sum (number_at l.which l.z) (drop l.term-index l.terms) ≡ weighted_sum (number_at l.which l.z) l.terms;
  small : unsigned_abs l.sum ≤ l.term-index * (2 ^ 75 * 2 ^ 50);
}
