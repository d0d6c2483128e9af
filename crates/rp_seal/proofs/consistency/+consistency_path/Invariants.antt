use Rattle.std.proofs.Common.{length}
use Rattle.rp_seal.proofs.consistency.+consistency_path.Given as goal

abbrev pub decreases-consistency_path : goal.decreases-consistency_path
decreases-consistency_path l = length l.hashes.now
