use Rattle.std.proofs.Common.{length}
use Rattle.rp_book_cli.proofs.size.tally_of.Given as goal

abbrev pub decreases-loop-line : goal.decreases-loop-line
decreases-loop-line l = length l.rest
