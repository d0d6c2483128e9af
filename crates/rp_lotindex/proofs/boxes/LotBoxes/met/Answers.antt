use Rattle.std.proofs.Common.{ap, sym, ◌∙◌}
use Rattle.rp_boxindex.specs.Boxes.{Boxes}
use Rattle.rp_lotindex.specs.Near.{places_met}
use Rattle.rp_lotindex.proofs.Reached.{met_none}
use Rattle.rp_lotindex.proofs.boxes.LotBoxes.met.Goals as goal

pub returns-in-None : goal.returns-in-None
returns-in-None g c =
    let boxes = g.B.Bounded.boxes c.args.boxes.now in
    c.new.ensures.items ∙ sym (met_none c.args.reach c.args.from boxes) ∙ ap (λ (m : Boxes). places_met c.args.reach c.args.from m boxes) c.in-None.ensures
