use Rattle.std.proofs.Common.{◌≡◌, true, false, rules}
use Rattle.rp_boxindex.specs.cells.Halves.{is_upper}
use Rattle.rp_boxindex.specs.cells.Nodes.{AreSides, cell_entry}
use Rattle.rp_boxindex.specs.tree.Order.{is_at_place}
use Rattle.rp_boxindex.proofs.Halves.{gone_lower, gone_upper, nowhere_lower, nowhere_upper}
use Rattle.rp_boxindex.proofs.cells.Cells.+without.Goals as goal

pub returns-then-is_upper-clause-entries : goal.returns-then-is_upper-clause-entries
returns-then-is_upper-clause-entries t c =
    let sides : AreSides c.args.self c.in-Some.lower c.in-Some.node.value.middle c.in-Some.node.value.entry c.in-Some.upper = c.in-Some.ensures in
    gone_upper (cell_entry c.without-upper.result.1) c.without-upper.result.0.entries c.join.result.entries sides c.without-upper.ensures.entries c.join.ensures

pub returns-then-is_upper-clause-gone : goal.returns-then-is_upper-clause-gone
returns-then-is_upper-clause-gone t c =
    let sides : AreSides c.args.self c.in-Some.lower c.in-Some.node.value.middle c.in-Some.node.value.entry c.in-Some.upper = c.in-Some.ensures in
    let apart : is_at_place c.args.place.now c.in-Some.node.value.entry ≡ false = search rules in
    let up : is_upper c.in-Some.node.value.middle c.args.place.now ≡ true = search rules in
    nowhere_upper c.args.place.now (cell_entry c.without-upper.result.1) sides apart up c.without-upper.ensures.gone

pub returns-else-is_upper-clause-entries : goal.returns-else-is_upper-clause-entries
returns-else-is_upper-clause-entries t c =
    let sides : AreSides c.args.self c.in-Some.lower c.in-Some.node.value.middle c.in-Some.node.value.entry c.in-Some.upper = c.in-Some.ensures in
    gone_lower (cell_entry c.without-lower.result.1) c.without-lower.result.0.entries c.join-else-is_upper.result.entries sides c.without-lower.ensures.entries c.join-else-is_upper.ensures

pub returns-else-is_upper-clause-gone : goal.returns-else-is_upper-clause-gone
returns-else-is_upper-clause-gone t c =
    let sides : AreSides c.args.self c.in-Some.lower c.in-Some.node.value.middle c.in-Some.node.value.entry c.in-Some.upper = c.in-Some.ensures in
    let apart : is_at_place c.args.place.now c.in-Some.node.value.entry ≡ false = search rules in
    let low : is_upper c.in-Some.node.value.middle c.args.place.now ≡ false = search rules in
    nowhere_lower c.args.place.now (cell_entry c.without-lower.result.1) sides apart low c.without-lower.ensures.gone
