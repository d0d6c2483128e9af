use Rattle.std.proofs.Common.{length}
use Rattle.rp_seal.proofs.hashing.+root_of.Given as goal

abbrev pub decreases-root_of : goal.decreases-root_of
decreases-root_of l = length l.hashes.now
