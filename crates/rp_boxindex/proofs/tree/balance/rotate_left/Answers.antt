use Rattle.rp_boxindex.specs.tree.Nodes.{AreParts}
use Rattle.rp_boxindex.proofs.Order.{low_side, high_side, turned_left, turned_twice}
use Rattle.rp_boxindex.proofs.tree.balance.rotate_left.Goals as goal

pub join-requires-clause-between : goal.join-requires-clause-between
join-requires-clause-between c =
    let parts : AreParts c.args.right c.in-Some.b c.in-Some.j.value.entry c.in-Some.c = c.in-Some.ensures in
    high_side parts c.args.node.value.entry c.args.left.entries c.requires.between

pub join-requires-then-height-clause-between : goal.join-requires-then-height-clause-between
join-requires-then-height-clause-between c =
    let parts : AreParts c.args.right c.in-Some.b c.in-Some.j.value.entry c.in-Some.c = c.in-Some.ensures in
    turned_left parts c.args.node.value.entry c.args.left.entries c.join.result.entries c.requires.between c.join.ensures.entries

pub join-requires-2-clause-between : goal.join-requires-2-clause-between
join-requires-2-clause-between c =
    let parts : AreParts c.args.right c.in-Some.b c.in-Some.j.value.entry c.in-Some.c = c.in-Some.ensures in
    let inner : AreParts c.in-Some.b c.in-Some-into_parts.u c.in-Some-into_parts.i.value.entry c.in-Some-into_parts.v = c.in-Some-into_parts.ensures in
    high_side inner c.args.node.value.entry c.args.left.entries (high_side parts c.args.node.value.entry c.args.left.entries c.requires.between)

pub join-requires-3-clause-between : goal.join-requires-3-clause-between
join-requires-3-clause-between c =
    let parts : AreParts c.args.right c.in-Some.b c.in-Some.j.value.entry c.in-Some.c = c.in-Some.ensures in
    let inner : AreParts c.in-Some.b c.in-Some-into_parts.u c.in-Some-into_parts.i.value.entry c.in-Some-into_parts.v = c.in-Some-into_parts.ensures in
    low_side inner c.in-Some.j.value.entry c.in-Some.c.entries parts.between

pub join-requires-4-clause-between : goal.join-requires-4-clause-between
join-requires-4-clause-between c =
    let parts : AreParts c.args.right c.in-Some.b c.in-Some.j.value.entry c.in-Some.c = c.in-Some.ensures in
    let inner : AreParts c.in-Some.b c.in-Some-into_parts.u c.in-Some-into_parts.i.value.entry c.in-Some-into_parts.v = c.in-Some-into_parts.ensures in
    turned_twice inner c.args.left.entries c.args.node.value.entry c.in-Some.j.value.entry c.in-Some.c.entries c.join-2.result.entries c.join-3.result.entries (high_side parts c.args.node.value.entry c.args.left.entries c.requires.between) parts.between c.join-2.ensures.entries c.join-3.ensures.entries
