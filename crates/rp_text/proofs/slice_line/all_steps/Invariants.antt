use Rattle.std.proofs.Common.{◌≡◌, ◌-◌, ◌≤◌, length}
use Rattle.rp_text.specs.Readers.{items}
use Rattle.rp_text.specs.SliceReaders.{step}
use Rattle.rp_text.proofs.ItemLemmas.{with_front}
use Rattle.rp_text.proofs.slice_line.all_steps.Given as goal

-- the steps so far, and those that the rest gives, are all
abbrev pub invariant-loop-rest : goal.invariant-loop-rest
invariant-loop-rest l = record {
  few : length l.steps ≤ 36;
  same : with_front l.steps (items step (36 - length l.steps) l.rest) ≡ items step 36 l.line;
}

-- what is left gets shorter
abbrev pub decreases-loop-rest : goal.decreases-loop-rest
decreases-loop-rest l = length l.rest
