use Rattle.std.proofs.Common.{length}
use Rattle.rp_seal.proofs.consistency.+consistency_roots.Given as goal

abbrev pub decreases-consistency_roots : goal.decreases-consistency_roots
decreases-consistency_roots l = length l.proof.now
