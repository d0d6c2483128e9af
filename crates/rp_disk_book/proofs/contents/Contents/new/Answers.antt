use Rattle.rp_disk_book.proofs.KeptLemmas.{IsKept-start}
use Rattle.rp_disk_book.proofs.contents.Contents.new.Goals as goal

pub returns-clause-kept : goal.returns-clause-kept
returns-clause-kept c = rw (c.new.ensures.items, c.new-2.ensures.items) IsKept-start
