use Rattle.std.proofs.Common.{◌≡◌, ◌≤◌, length}
use Rattle.std.specs.Option.{option_map}
use Rattle.rp_reports.specs.Check.{next_proof, follow_drops}
use Rattle.rp_cert.specs.Lines.{line_of}
use Rattle.rp_trail.proofs.drops.follow_drops.Given as goal

-- the lines still to come drop what the whole of them drops, and the next of them is read
abbrev pub invariant-loop-half : goal.invariant-loop-half
invariant-loop-half g l =
    record {
      left : follow_drops l.trail.lines l.kept.items l.trail ≡ follow_drops l.initial.trail.lines l.initial.kept.items l.initial.trail;
      few : length l.kept.items ≤ 64;
      next : option_map line_of l.next ≡ next_proof l.trail.lines;
    }

abbrev pub decreases-loop-half : goal.decreases-loop-half
decreases-loop-half g l = length l.trail.lines
