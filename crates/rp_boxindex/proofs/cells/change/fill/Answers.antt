use Rattle.rp_space.specs.Boxes.{integer_box}
use Rattle.rp_boxindex.proofs.Halves.{hull_of_cell}
use Rattle.rp_boxindex.proofs.cells.change.fill.Goals as goal

pub returns-clause-settled : goal.returns-clause-settled
returns-clause-settled c = record {
  halves = c.requires;
  hull = hull_of_cell (integer_box c.hull_with-hull.result) (integer_box c.hull_with-node.result) c.args.node.now.entry c.args.lower.entries c.args.upper.entries c.hull_with-hull.ensures.first c.hull_with-hull.ensures.all c.hull_with-node.ensures.first c.hull_with-node.ensures.all;
}
