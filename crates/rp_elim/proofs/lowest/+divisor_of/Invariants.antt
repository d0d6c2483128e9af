use Rattle.std.proofs.Common.{length}
use Rattle.rp_elim.proofs.lowest.+divisor_of.Given as goal

abbrev pub decreases-divisor_of : goal.decreases-divisor_of
decreases-divisor_of l = length l.terms.now
