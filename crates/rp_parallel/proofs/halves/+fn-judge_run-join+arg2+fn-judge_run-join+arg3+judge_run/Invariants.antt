use Rattle.std.proofs.Common.{◌-◌}
use Rattle.rp_parallel.proofs.halves.+fn-judge_run-join+arg2+fn-judge_run-join+arg3+judge_run.Given as goal

abbrev pub decreases-join+arg2 : goal.decreases-join+arg2
decreases-join+arg2 g l = l.middle - l.first

abbrev pub decreases-join+arg3 : goal.decreases-join+arg3
decreases-join+arg3 g l = l.end - l.middle

abbrev pub decreases-judge_run : goal.decreases-judge_run
decreases-judge_run g l = l.end - l.first
