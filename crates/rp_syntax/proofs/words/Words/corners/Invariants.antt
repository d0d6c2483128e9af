use Rattle.std.proofs.Common.{◌≡◌, ◌-◌, map}
use Rattle.rp_language.specs.Grammar.{many, corner_numbers}
use Rattle.rp_space.specs.Corners.{polygon_corner}
use Rattle.rp_command.specs.Versions.{version_of}
use Rattle.rp_syntax.proofs.ManyLemmas.{with_front}
use Rattle.rp_syntax.proofs.words.Words.corners.Given as goal

-- the items so far, and then those that are left, are all
abbrev pub invariant-loop : goal.invariant-loop
invariant-loop l = with_front (map polygon_corner l.corners.items) (many (l.count - l.counter) (corner_numbers (version_of l.fn.version)) l.self) ≡ many l.count (corner_numbers (version_of l.fn.version)) l.fn.self
