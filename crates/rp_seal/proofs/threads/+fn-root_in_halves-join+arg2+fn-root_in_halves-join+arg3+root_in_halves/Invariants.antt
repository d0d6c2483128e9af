use Rattle.std.proofs.Common.{length}
use Rattle.rp_seal.proofs.threads.+fn-root_in_halves-join+arg2+fn-root_in_halves-join+arg3+root_in_halves.Given as goal

abbrev pub decreases-join+arg2 : goal.decreases-join+arg2
decreases-join+arg2 g l = length l.left.now

abbrev pub decreases-join+arg3 : goal.decreases-join+arg3
decreases-join+arg3 g l = length l.right.now

abbrev pub decreases-root_in_halves : goal.decreases-root_in_halves
decreases-root_in_halves g l = length l.hashes.now
