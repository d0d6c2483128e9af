use Rattle.rp_boxindex.specs.cells.Nodes.{AreSides}
use Rattle.rp_boxindex.proofs.Halves.{united}
use Rattle.rp_boxindex.proofs.cells.change.+unite.Goals as goal

pub returns-in-Some : goal.returns-in-Some
returns-in-Some t c =
    let sides : AreSides c.args.lower c.in-Some.first c.in-Some.node.value.middle c.in-Some.node.value.entry c.in-Some.second = c.in-Some.ensures in
    united c.unite-rest.result.entries c.args.upper.entries c.join.result.entries sides c.unite-rest.ensures c.join.ensures
