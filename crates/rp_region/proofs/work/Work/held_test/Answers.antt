use Rattle.std.proofs.Common.{◌++◌}
use Rattle.std.specs.Prelude.{Some, None}
use Rattle.std.proofs.lemmas.Result.{err_from_is_err_and}
use Rattle.rp_geometry.specs.searches.ProofLine.{in_line, out_line}
use Rattle.rp_semantics.specs.Walk.{strict_test}
use Rattle.rp_region.specs.Tells.{strict_tells}
use Rattle.rp_region.proofs.Left.{not_begun}
use Rattle.rp_region.proofs.Tested.{no_points, strict_told}
use Rattle.rp_region.proofs.work.Work.held_test.Goals as goal

pub returns-in_err-tell-in-Inside : goal.returns-in_err-tell-in-Inside
returns-in_err-tell-in-Inside c =
    let p = err_from_is_err_and c.from_residual.result c.from_residual.ensures.1 in
    let cell = c.args.cell.now ++ c.args.more.now in
    rw (p.1) (not_begun (strict_test cell) c.args.self.now c.tell.new.self (strict_tells cell) c.in_err-tell-in-Inside.ensures.err)

pub returns-in_err-tell-in-Outside : goal.returns-in_err-tell-in-Outside
returns-in_err-tell-in-Outside c =
    let p = err_from_is_err_and c.from_residual-in_err-tell-in-Outside.result c.from_residual-in_err-tell-in-Outside.ensures.1 in
    let cell = c.args.cell.now ++ c.args.more.now in
    rw (p.1) (not_begun (strict_test cell) c.args.self.now c.tell-in-Outside.new.self (strict_tells cell) c.in_err-tell-in-Outside.ensures.err)

pub returns-in_ok-tell-in-Inside : goal.returns-in_ok-tell-in-Inside
returns-in_ok-tell-in-Inside c =
    strict_told (c.args.cell.now ++ c.args.more.now) (Some c.in-Inside.points) (in_line c.in-Inside.points) c.args.self.now c.tell.new.self c.in-Inside.ensures.decides.0 c.in-Inside.ensures.line c.in_ok-tell-in-Inside.ensures.ok

pub returns-in_ok-tell-in-Outside : goal.returns-in_ok-tell-in-Outside
returns-in_ok-tell-in-Outside c =
    strict_told (c.args.cell.now ++ c.args.more.now) None (out_line c.in-Outside.terms) c.args.self.now c.tell-in-Outside.new.self (no_points (c.args.cell.now ++ c.args.more.now) c.in-Outside.terms c.in-Outside.ensures.line) c.in-Outside.ensures.line c.in_ok-tell-in-Outside.ensures.ok
