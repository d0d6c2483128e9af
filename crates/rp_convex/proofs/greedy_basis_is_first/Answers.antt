use Rattle.rp_convex.proofs.Bases.{greedy_basis_is_first_spec}
use Rattle.rp_convex.proofs.greedy_basis_is_first.Goals as goal

pub returns : goal.returns
returns c = greedy_basis_is_first_spec
