use Rattle.std.proofs.Common.{◌≡◌, ◌-◌}
use Rattle.rp_language.specs.Grammar.{many, name}
use Rattle.rp_syntax.proofs.ManyLemmas.{with_front}
use Rattle.rp_syntax.proofs.words.Words.lots.Given as goal

-- the items so far, and then those that are left, are all
abbrev pub invariant-loop : goal.invariant-loop
invariant-loop l = with_front (l.lots.items) (many (l.count - l.counter) name l.self) ≡ many l.count name l.fn.self
