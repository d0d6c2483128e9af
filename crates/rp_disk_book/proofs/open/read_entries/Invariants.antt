use Rattle.std.proofs.Common.{drop}
use Rattle.rp_disk_book.specs.Kept.{IsKept, contents_of}
use Rattle.rp_disk_book.specs.Disk.{HasRead}
use Rattle.rp_disk_book.proofs.open.read_entries.Given as goal

abbrev pub invariant-loop-row : goal.invariant-loop-row
invariant-loop-row l = IsKept (contents_of l.contents) × HasRead l.rows (drop l.row-index l.rows) (contents_of l.contents)
