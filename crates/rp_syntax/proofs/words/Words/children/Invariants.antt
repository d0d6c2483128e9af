use Rattle.std.proofs.Common.{◌≡◌, ◌-◌, map}
use Rattle.rp_language.specs.Grammar.{many, child}
use Rattle.rp_command.specs.Versions.{version_of}
use Rattle.rp_command.specs.Views.{child_of}
use Rattle.rp_syntax.proofs.ManyLemmas.{with_front}
use Rattle.rp_syntax.proofs.words.Words.children.Given as goal

-- the items so far, and then those that are left, are all
abbrev pub invariant-loop : goal.invariant-loop
invariant-loop l = with_front (map child_of l.children.items) (many (l.count - l.counter) (child (version_of l.fn.version)) l.self) ≡ many l.count (child (version_of l.fn.version)) l.fn.self
