use Rattle.std.proofs.Common.{length}
use Rattle.rp_seal.proofs.tree.+root_over.Given as goal

abbrev pub decreases-root_over : goal.decreases-root_over
decreases-root_over l = length l.peaks.now
