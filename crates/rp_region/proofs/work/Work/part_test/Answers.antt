use Rattle.std.proofs.lemmas.Result.{err_from_is_err_and}
use Rattle.rp_semantics.specs.Walk.{part_test}
use Rattle.rp_region.proofs.Grows.{part_tells}
use Rattle.rp_region.proofs.Left.{not_begun}
use Rattle.rp_region.proofs.work.Work.part_test.Goals as goal

pub returns-in_err-room-clause-makes : goal.returns-in_err-room-clause-makes
returns-in_err-room-clause-makes c =
    let p = err_from_is_err_and c.from_residual.result c.from_residual.ensures.1 in
    rw (p.1, p.2) (not_begun (part_test c.args.cell.now) c.args.self.now c.take_room.new.self (part_tells c.args.cell.now) c.take_room.ensures)
