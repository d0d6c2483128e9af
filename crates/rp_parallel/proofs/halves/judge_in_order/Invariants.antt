use Rattle.std.proofs.Common.{◌≡◌, ◌-◌}
use Rattle.rp_parallel.specs.Meanings.{meanings_from}
use Rattle.rp_parallel.proofs.halves.judge_in_order.Given as goal

abbrev pub invariant-loop-i : goal.invariant-loop-i
invariant-loop-i g l = l.outs.items ≡ meanings_from (g.J.Judge.meaning l.judge) l.first (l.i - l.first)
