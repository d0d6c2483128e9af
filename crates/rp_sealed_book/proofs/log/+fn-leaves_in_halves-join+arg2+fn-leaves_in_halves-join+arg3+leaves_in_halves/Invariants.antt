use Rattle.std.proofs.Common.{length}
use Rattle.rp_sealed_book.proofs.log.+fn-leaves_in_halves-join+arg2+fn-leaves_in_halves-join+arg3+leaves_in_halves.Given as goal

abbrev pub decreases-join+arg2 : goal.decreases-join+arg2
decreases-join+arg2 g l = length l.front.now

abbrev pub decreases-join+arg3 : goal.decreases-join+arg3
decreases-join+arg3 g l = length l.back.now

abbrev pub decreases-leaves_in_halves : goal.decreases-leaves_in_halves
decreases-leaves_in_halves g l = length l.acts.now
