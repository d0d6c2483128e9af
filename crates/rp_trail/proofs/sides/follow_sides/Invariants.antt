use Rattle.std.proofs.Common.{drop}
use Rattle.rp_reports.specs.Check.{follow_sides}
use Rattle.rp_oracle.proofs.Left.{IsLeft}
use Rattle.rp_trail.proofs.sides.follow_sides.Given as goal

-- the sides still to come are left
abbrev pub invariant-loop-side : goal.invariant-loop-side
invariant-loop-side l = IsLeft l.initial.trail (follow_sides l.kept l.side-items) l.trail (follow_sides l.kept (drop l.side-index l.side-items))
