use Rattle.std.proofs.Common.{None, ap, ◌∙◌}
use Rattle.rp_space.specs.Boxes.{integer_box}
use Rattle.rp_boxindex.specs.Boxes.{Boxes}
use Rattle.rp_lotindex.specs.Owner.{boxes_asked, first_in}
use Rattle.rp_lotindex.proofs.Owned.{first_in_none}
use Rattle.rp_lotindex.proofs.boxes.LotBoxes.first.Goals as goal

pub returns-in-None : goal.returns-in-None
returns-in-None g c =
    let passes = g.C.Choice.passes c.args.choice.now in
    let asked = boxes_asked c.args.moment (integer_box c.args.unit.now) in
    first_in_none passes asked ∙ ap (λ (m : Boxes). first_in passes m asked None) c.in-None.ensures
