use Rattle.std.proofs.Common.{◌≡◌, ◌-◌}
use Rattle.rp_lotindex.specs.Stretches.{stretch_from, stretch_of}
use Rattle.rp_lotindex.proofs.stretch.Stretch.of.Given as goal

-- the stretches still to come are left
abbrev pub invariant-loop-level : goal.invariant-loop-level
invariant-loop-level l = stretch_from (31 - l.level) l.level l.first l.last ≡ stretch_of l.born l.ended
