use Rattle.std.proofs.Common.{vec_len}
use Rattle.rp_seal.proofs.tree.+merge.Given as goal

abbrev pub decreases-merge : goal.decreases-merge
decreases-merge l = vec_len l.peaks.now
