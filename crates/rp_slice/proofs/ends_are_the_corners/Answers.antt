use Rattle.rp_slice.proofs.Corners.{ends_are_the_corners_spec}
use Rattle.rp_slice.proofs.ends_are_the_corners.Goals as goal

pub returns : goal.returns
returns c = ends_are_the_corners_spec
