use Rattle.rp_footprint.proofs.Corners.{edge_to_next, edge_to_first}
use Rattle.rp_footprint.proofs.prism.edge_end.Goals as goal

pub returns-then-k-corners : goal.returns-then-k-corners
returns-then-k-corners c = edge_to_next c.args.corners.now c.args.k _ _ c.if-k-corners.true

pub returns-else-k-corners : goal.returns-else-k-corners
returns-else-k-corners c = edge_to_first c.args.corners.now c.args.k _ _ c.requires c.if-k-corners.false
