use Rattle.std.proofs.Common.{◌+◌, length}
use Rattle.rp_boxindex.proofs.cells.change.+unite.Given as goal

abbrev pub decreases-unite : goal.decreases-unite
decreases-unite l = length l.lower.entries + length l.upper.entries
