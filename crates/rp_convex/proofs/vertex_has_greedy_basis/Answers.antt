use Rattle.rp_convex.proofs.Bases.{vertex_has_greedy_basis_spec}
use Rattle.rp_convex.proofs.vertex_has_greedy_basis.Goals as goal

pub returns : goal.returns
returns c = vertex_has_greedy_basis_spec
