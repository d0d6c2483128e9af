use Rattle.std.proofs.Common.{◌≡◌}
use Rattle.std.specs.List.{list_all}
use Rattle.rp_geometry.specs.sections.Ring.{turns_of, is_turn}
use Rattle.rp_cert.proofs.Walks.{turns_left}
use Rattle.rp_cert.proofs.ring.are_turns.Given as goal

-- the turns that are left pass where all do
abbrev pub invariant-loop-i : goal.invariant-loop-i
invariant-loop-i l = list_all is_turn (turns_left l.i l.steps) ≡ list_all is_turn (turns_of l.steps)
