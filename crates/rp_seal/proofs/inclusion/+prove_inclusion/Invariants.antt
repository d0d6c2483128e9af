use Rattle.std.proofs.Common.{length}
use Rattle.rp_seal.proofs.inclusion.+prove_inclusion.Given as goal

abbrev pub decreases-prove_inclusion : goal.decreases-prove_inclusion
decreases-prove_inclusion l = length l.hashes.now
