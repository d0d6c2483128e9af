use Rattle.rp_boxindex.specs.tree.Nodes.{IsSplit}
use Rattle.rp_boxindex.proofs.Changes.{united_between}
use Rattle.rp_boxindex.proofs.tree.change.concat.Goals as goal

pub balance-requires-clause-between : goal.balance-requires-clause-between
balance-requires-clause-between c =
    let split : IsSplit c.args.right c.in-Some.first.value.entry c.in-Some.rest = c.in-Some.ensures in
    united_between c.args.left.entries c.requires.between split
