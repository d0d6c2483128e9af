use Rattle.rp_clip.proofs.Best.{none_is_first}
use Rattle.rp_clip.proofs.Taken.{taken_all, none_taken}
use Rattle.rp_clip.proofs.inside.first_points.Goals as goal

pub returns-then-take_from-ne0 : goal.returns-then-take_from-ne0
returns-then-take_from-ne0 g c =
    none_taken c.args.planes.now c.take_from.result c.take_from.new.taken c.requires.few c.if-take_from-ne0.true c.take_from.ensures.taken
    (none_is_first c.args.planes.now c.args.table.now c.take_from.result c.requires c.take_from.ensures.none)

pub returns : goal.returns
returns g c = taken_all c.args.planes.now c.take_from.result c.take_from.new.taken c.requires.few c.take_from.ensures.taken c.if-take_from-ne0.false
