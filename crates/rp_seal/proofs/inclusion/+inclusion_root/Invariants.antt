use Rattle.std.proofs.Common.{length}
use Rattle.rp_seal.proofs.inclusion.+inclusion_root.Given as goal

abbrev pub decreases-inclusion_root : goal.decreases-inclusion_root
decreases-inclusion_root l = length l.proof.now
