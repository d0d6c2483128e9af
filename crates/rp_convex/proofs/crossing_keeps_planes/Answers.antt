use Rattle.rp_convex.proofs.Edges.{crossing_keeps_planes_spec}
use Rattle.rp_convex.proofs.crossing_keeps_planes.Goals as goal

pub returns : goal.returns
returns c = crossing_keeps_planes_spec
