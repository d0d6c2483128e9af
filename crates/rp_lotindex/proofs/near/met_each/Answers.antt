use Rattle.std.proofs.Common.{◌∙◌}
use Rattle.rp_space.specs.Boxes.{integer_box}
use Rattle.rp_lotindex.proofs.Reached.{met_next}
use Rattle.rp_lotindex.proofs.near.met_each.Goals as goal

pub loop-number-preserved : goal.loop-number-preserved
loop-number-preserved g c =
    let a = c.args in
    let l = c.loop-number in
    met_next a.reach a.from a.index.now (g.B.Bounded.boxes a.boxes.now) l.number (integer_box c.bounds-bounds.result) l.places.items c.in_ok-more.more.items c.append.new.self.items
    c.bounds-bounds.ensures c.in_ok-more.ensures c.in_ok-append.ensures.items
    ∙ l.invariant
