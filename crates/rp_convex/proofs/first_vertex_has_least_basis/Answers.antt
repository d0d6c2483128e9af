use Rattle.rp_convex.proofs.Least.{first_vertex_has_least_basis_spec}
use Rattle.rp_convex.proofs.first_vertex_has_least_basis.Goals as goal

pub returns : goal.returns
returns c = first_vertex_has_least_basis_spec
