use Rattle.std.proofs.Common.{map, drop}
use Rattle.rp_reports.specs.Check.{line_tester}
use Rattle.rp_oracle.proofs.Left.{IsLeft}
use Rattle.rp_contacts.specs.Apart.{apart_each}
use Rattle.rp_check_queries.proofs.turn.show_apart_in_turn.Given as goal

-- the pairs still to come are left
abbrev pub invariant-loop-i : goal.invariant-loop-i
invariant-loop-i l =
    let lists = map (λ f. f.items) l.forms in
    IsLeft l.initial.trail (apart_each line_tester lists l.pairs) l.trail (apart_each line_tester lists (drop l.i l.pairs))
