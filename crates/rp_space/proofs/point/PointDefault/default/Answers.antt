use Rattle.std.proofs.Common.{refl, lit<}
use lib.Signed.{lt_z_yes}
use Rattle.rp_algebra.specs.Integer.{gcd, gcd_of}
use Rattle.rp_geometry.specs.Geometry.{reduced_point}
use Rattle.rp_space.proofs.point.PointDefault.default.Goals as goal

pub invariant_of-result : goal.invariant_of-result
unfolding gcd gcd_of reduced_point
invariant_of-result c = record { numbers = record { positive = lt_z_yes tt; x = lit< tt; y = lit< tt; z = lit< tt; w = lit< tt }; lowest = refl }
