use Rattle.rp_convex.proofs.Edges.{vertices_follow_edges_spec}
use Rattle.rp_convex.proofs.vertices_follow_edges.Goals as goal

pub returns : goal.returns
returns c = vertices_follow_edges_spec
