use Rattle.rp_geometry.proofs.Boxes.{box_holds}
use Rattle.rp_geometry.proofs.box_holds_what_is_between.Goals as goal

pub returns : goal.returns
returns c = λ b p. box_holds b p
