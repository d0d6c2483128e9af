use Rattle.std.proofs.Common.{length}
use Rattle.rp_book_cli.proofs.act.options_of.Given as goal

abbrev pub decreases-loop-word : goal.decreases-loop-word
decreases-loop-word l = length l.rest
