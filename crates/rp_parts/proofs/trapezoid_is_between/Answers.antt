use Rattle.rp_parts.proofs.Trapezoids.{trapezoid_is_between_spec}
use Rattle.rp_parts.proofs.trapezoid_is_between.Goals as goal

pub returns : goal.returns
returns c = trapezoid_is_between_spec
