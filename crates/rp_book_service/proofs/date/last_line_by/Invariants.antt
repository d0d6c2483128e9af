use Rattle.std.proofs.Common.{◌≡◌, length, map}
use Rattle.std.specs.Prelude.{max}
use Rattle.rp_book.specs.Act.{act_of}
use Rattle.rp_book_service.specs.Acts.{last_by}
use Rattle.rp_book_service.proofs.date.last_line_by.Given as goal

abbrev pub invariant-loop-act : goal.invariant-loop-act
invariant-loop-act l = max l.last (last_by l.date (map act_of l.rest)) ≡ last_by l.date (map act_of l.acts)

abbrev pub decreases-loop-act : goal.decreases-loop-act
decreases-loop-act l = length l.rest
