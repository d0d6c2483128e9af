use Rattle.std.proofs.Common.{◌≡◌, ◌-◌, ◌≤◌, length}
use Rattle.rp_text.specs.Readers.{term, items}
use Rattle.rp_text.proofs.ItemLemmas.{with_front}
use Rattle.rp_text.proofs.readers.terms.Given as goal

-- the terms so far, and those that the rest gives, are all
abbrev pub invariant-loop-rest : goal.invariant-loop-rest
invariant-loop-rest l = record {
  few : length l.terms ≤ 4;
  same : with_front l.terms (items term (4 - length l.terms) l.rest) ≡ items term 4 l.line;
}

-- what is left gets shorter
abbrev pub decreases-loop-rest : goal.decreases-loop-rest
decreases-loop-rest l = length l.rest
