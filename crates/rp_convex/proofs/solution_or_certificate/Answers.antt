use Rattle.rp_convex.proofs.Alternative.{solution_or_certificate_spec}
use Rattle.rp_convex.proofs.solution_or_certificate.Goals as goal

pub returns : goal.returns
returns c = solution_or_certificate_spec
