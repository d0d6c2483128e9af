use Rattle.std.proofs.Common.{◌≤◌, arith, rules}
use Rattle.rp_boxindex.specs.tree.Nodes.{AreParts}
use Rattle.rp_boxindex.specs.tree.Order.{place_of}
use Rattle.rp_boxindex.proofs.Changes.{free_left, free_right, between_right, more_left, more_right}
use Rattle.rp_boxindex.proofs.tree.Tree.+with.Goals as goal

pub with-requires : goal.with-requires
with-requires t c =
    let parts : AreParts c.args.self c.in-Some.left c.in-Some.node.value.entry c.in-Some.right = c.in-Some.ensures in
    let free = free_left (place_of c.args.new.value.entry) parts c.requires.free in
    let fits : c.in-Some.left.height ≤ 198 = grind arith in
    (grind arith, (fits, free))

pub with-requires-else-precedes : goal.with-requires-else-precedes
with-requires-else-precedes t c =
    let parts : AreParts c.args.self c.in-Some.left c.in-Some.node.value.entry c.in-Some.right = c.in-Some.ensures in
    let free = free_right (place_of c.args.new.value.entry) parts c.requires.free in
    let fits : c.in-Some.right.height ≤ 198 = grind arith in
    (grind arith, (fits, free))

pub balance-requires-else-precedes-clause-between : goal.balance-requires-else-precedes-clause-between
balance-requires-else-precedes-clause-between t c =
    let parts : AreParts c.args.self c.in-Some.left c.in-Some.node.value.entry c.in-Some.right = c.in-Some.ensures in
    between_right c.args.new.value.entry c.with-else-precedes.result.entries parts c.requires.free (search rules) c.with-else-precedes.ensures.entries

pub returns-then-precedes-clause-entries : goal.returns-then-precedes-clause-entries
returns-then-precedes-clause-entries t c =
    let parts : AreParts c.args.self c.in-Some.left c.in-Some.node.value.entry c.in-Some.right = c.in-Some.ensures in
    more_left c.args.new.value.entry c.with.result.entries c.balance-then-precedes.result.entries parts c.with.ensures.entries c.balance-then-precedes.ensures.entries

pub returns-else-precedes-clause-entries : goal.returns-else-precedes-clause-entries
returns-else-precedes-clause-entries t c =
    let parts : AreParts c.args.self c.in-Some.left c.in-Some.node.value.entry c.in-Some.right = c.in-Some.ensures in
    more_right c.args.new.value.entry c.with-else-precedes.result.entries c.balance-else-precedes.result.entries parts c.with-else-precedes.ensures.entries c.balance-else-precedes.ensures.entries
