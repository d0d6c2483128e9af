use Rattle.rp_access.proofs.First.{next_of_list, all_of_list}
use Rattle.rp_access.proofs.way.first_of_level.Goals as goal

pub loop-j-preserved : goal.loop-j-preserved
loop-j-preserved c = next_of_list c.args.levels.now c.args.level c.args.numbers.now c.loop-j.j-index c.loop-j.first c.first_with-first.result c.loop-j-test.true c.first_with-first.ensures c.loop-j.invariant

pub returns : goal.returns
returns c = all_of_list c.args.levels.now c.args.level c.args.numbers.now c.loop-j.j-index c.loop-j.first c.loop-j-test.false c.loop-j.invariant
