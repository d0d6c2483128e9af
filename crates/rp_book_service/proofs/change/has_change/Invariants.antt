use Rattle.std.proofs.Common.{◌≡◌, length}
use Rattle.rp_command.specs.Versions.{version_of}
use Rattle.rp_book_service.specs.Added.{has_change}
use Rattle.rp_book_service.proofs.change.has_change.Given as goal

abbrev pub invariant-loop-line : goal.invariant-loop-line
invariant-loop-line l = has_change (version_of l.version) l.lines ≡ has_change (version_of l.version) l.rest

abbrev pub decreases-loop-line : goal.decreases-loop-line
decreases-loop-line l = length l.rest
