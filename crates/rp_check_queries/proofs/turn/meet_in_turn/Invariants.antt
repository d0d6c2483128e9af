use Rattle.std.proofs.Common.{◌≡◌, [], length, map, drop}
use Rattle.rp_reports.specs.Check.{line_tester}
use Rattle.rp_oracle.proofs.Left.{IsLeft}
use Rattle.rp_contacts.specs.Meets.{meet_each}
use Rattle.rp_check_queries.proofs.turn.meet_in_turn.Given as goal

-- the pairs still to come are left
abbrev pub invariant-loop-i : goal.invariant-loop-i
invariant-loop-i l =
    let lists = map (λ f. f.items) l.forms in
    IsLeft l.initial.trail (meet_each line_tester l.reach lists [] l.pairs) l.trail (meet_each line_tester l.reach lists l.met.items (drop l.i l.pairs))
    × (length l.met.items ≡ l.i)
