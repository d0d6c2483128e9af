use Rattle.std.proofs.Common.{◌≡◌, ◌-◌, ◌≤◌, length}
use Rattle.rp_text.specs.Readers.{point, items}
use Rattle.rp_text.proofs.ItemLemmas.{with_front}
use Rattle.rp_text.proofs.readers.points.Given as goal

-- the points so far, and those that the rest gives, are all
abbrev pub invariant-loop-rest : goal.invariant-loop-rest
invariant-loop-rest l = record {
  few : length l.points ≤ 4;
  same : with_front l.points (items point (4 - length l.points) l.rest) ≡ items point 4 l.line;
}

-- what is left gets shorter
abbrev pub decreases-loop-rest : goal.decreases-loop-rest
decreases-loop-rest l = length l.rest
