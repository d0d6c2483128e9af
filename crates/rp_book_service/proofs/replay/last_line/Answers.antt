use Rattle.std.proofs.Common.{sym}
use Rattle.rp_book_service.proofs.ReplayLemmas.{last_number-nothing}
use Rattle.rp_book_service.proofs.replay.last_line.Goals as goal

pub line_numbers-requires-clause-before : goal.line_numbers-requires-clause-before
line_numbers-requires-clause-before c = sym last_number-nothing
