use Rattle.std.proofs.Common.{◌≤◌, length}
use Rattle.rp_book_cli.proofs.questions.Unmarked.read_front.Given as goal

abbrev pub invariant-loop : goal.invariant-loop
invariant-loop g l = l.count ≤ length l.buf
