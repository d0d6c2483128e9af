use Rattle.std.proofs.Common.{List, map, sym, ap, ◌∙◌, subst}
use Rattle.std.proofs.Math.ListN.{drop_of_length-le}
use Rattle.rp_geometry.specs.Geometry.{IntegerBox}
use Rattle.rp_space.specs.Boxes.{integer_box}
use Rattle.rp_proximity.specs.Hulls.{bounds_of, joined}
use Rattle.rp_lots.specs.Boxes.{IsAround}
use Rattle.rp_lots.proofs.Paired.{all_within}
use Rattle.rp_lots.proofs.near.hull_around.Goals as goal

pub returns : goal.returns
returns g c =
    let seen = g.T.Oracle.seen in
    let parts = c.args.parts.now in
    subst (λ (hull : IntegerBox). IsAround hull (map seen parts))
    (sym (ap (λ (left : List _). joined (integer_box c.loop-part.hull) (bounds_of (map seen left))) (sym (drop_of_length-le parts c.loop-part-test.false)) ∙ c.loop-part.invariant))
    (all_within (seen c.args.first.now).bounds (map seen parts))
