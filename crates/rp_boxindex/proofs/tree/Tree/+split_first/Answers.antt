use Rattle.std.proofs.Common.{◌≤◌, ◌+◌, arith}
use Rattle.rp_boxindex.specs.tree.Nodes.{AreParts, IsSplit}
use Rattle.rp_boxindex.proofs.Changes.{split_left}
use Rattle.rp_boxindex.proofs.tree.Tree.+split_first.Goals as goal

pub returns-in-Some : goal.returns-in-Some
returns-in-Some t c =
    let parts : AreParts c.args.self c.in_ok-left.left c.in_ok-left.node.value.entry c.in_ok-left.right = c.in_ok-left.ensures in
    let split : IsSplit c.in_ok-left.left c.in-Some.first.value.entry c.in-Some.rest = c.in-Some.ensures in
    let settled = c.balance.ensures in
    let low : c.balance.result.height ≤ c.args.self.height = grind arith in
    let high : c.args.self.height ≤ c.balance.result.height + 1 = grind arith in
    split_left c.balance.result parts split c.balance.ensures.entries low high
