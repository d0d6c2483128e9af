use Rattle.std.proofs.Common.{arith}
use Rattle.rp_unionfind.proofs.Trees.{single_forest}
use Rattle.rp_unionfind.proofs.forest.single_trees.Goals as goal

pub returns : goal.returns
returns c = single_forest c.args.count c.loop-number.number c.loop-number.parents.items (omega arith) (omega arith) c.loop-number.invariant.0 c.loop-number.invariant.1
