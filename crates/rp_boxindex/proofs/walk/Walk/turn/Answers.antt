use Rattle.std.proofs.Common.{Bool}
use Rattle.rp_geometry.specs.Geometry.{IntegerBox}
use Rattle.rp_space.specs.Boxes.{integer_box}
use Rattle.rp_boxindex.proofs.Walks.{further_trans}
use Rattle.rp_boxindex.proofs.walk.Walk.turn.Goals as goal

pub returns-clause-further : goal.returns-clause-further
returns-clause-further g c =
    let closed : Bool = c.args.query.now.closed in
    let b : IntegerBox = integer_box c.args.query.now.bounds in
    further_trans g.T.Take.after closed b c.args.self.now c.begin.new.self c.step-2.new.self (c.begin.ensures.further closed b)
    (further_trans g.T.Take.after closed b c.begin.new.self c.step.new.self c.step-2.new.self c.step.ensures.further c.step-2.ensures.further)
