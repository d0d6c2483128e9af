use Rattle.std.proofs.lemmas.Result.{err_from_is_err_and}
use Rattle.rp_geometry.specs.searches.ProofLine.{out_line}
use Rattle.rp_semantics.specs.Walk.{part_test}
use Rattle.rp_region.proofs.Grows.{part_tells}
use Rattle.rp_region.proofs.Left.{not_begun}
use Rattle.rp_region.proofs.Tested.{no_points, no_part}
use Rattle.rp_region.proofs.work.Work.held_part.Goals as goal

pub returns-in_err-tell-in-Outside-clause-makes : goal.returns-in_err-tell-in-Outside-clause-makes
returns-in_err-tell-in-Outside-clause-makes c =
    let p = err_from_is_err_and c.from_residual-in_err-tell-in-Outside.result c.from_residual-in_err-tell-in-Outside.ensures.1 in
    rw (p.1, p.2) (not_begun (part_test c.args.cell.now) c.args.self.now c.tell.new.self (part_tells c.args.cell.now) c.in_err-tell-in-Outside.ensures.err)

pub returns-in_ok-tell-in-Outside-clause-makes : goal.returns-in_ok-tell-in-Outside-clause-makes
returns-in_ok-tell-in-Outside-clause-makes c =
    no_part c.args.cell.now (out_line c.in-Outside.terms) c.args.self.now c.tell.new.self (no_points c.args.cell.now c.in-Outside.terms c.in-Outside.ensures.line) c.in-Outside.ensures.line c.in_ok-tell-in-Outside.ensures.ok
