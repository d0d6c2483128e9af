use Rattle.std.proofs.lemmas.Result.{err_from_is_err_and}
use Rattle.rp_semantics.specs.Walk.{first_tester}
use Rattle.rp_semantics.specs.Form.{join_each}
use Rattle.rp_region.proofs.Grows.{join_each_tells}
use Rattle.rp_region.proofs.Left.{not_begun}
use Rattle.rp_region.proofs.join.join_each.Goals as goal

pub returns-in_err-room : goal.returns-in_err-room
returns-in_err-room c =
    let p = err_from_is_err_and c.from_residual.result c.from_residual.ensures.1 in
    rw (p.1, p.2)
    (not_begun (join_each first_tester c.args.made.now.items c.args.parts.now c.args.others.now) c.args.work.now c.take_room.new.self
    (join_each_tells c.args.made.now.items c.args.parts.now c.args.others.now) c.take_room.ensures)
