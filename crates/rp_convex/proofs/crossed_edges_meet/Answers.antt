use Rattle.rp_convex.proofs.Edges.{crossed_edges_meet_spec}
use Rattle.rp_convex.proofs.crossed_edges_meet.Goals as goal

pub returns : goal.returns
returns c = crossed_edges_meet_spec
