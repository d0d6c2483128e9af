use Rattle.std.proofs.Common.{◌++◌}
use Rattle.std.specs.Prelude.{None}
use Rattle.std.proofs.lemmas.Result.{err_from_is_err_and}
use Rattle.rp_geometry.specs.searches.ProofLine.{out_line}
use Rattle.rp_semantics.specs.Walk.{strict_test}
use Rattle.rp_region.specs.Tells.{strict_tells}
use Rattle.rp_region.proofs.Left.{not_begun}
use Rattle.rp_region.proofs.Tested.{no_points, strict_told}
use Rattle.rp_region.proofs.front.Front.meets.Goals as goal

pub returns-in_err-tell-clause-makes : goal.returns-in_err-tell-clause-makes
returns-in_err-tell-clause-makes c =
    let p = err_from_is_err_and c.from_residual.result c.from_residual.ensures.1 in
    let cell = c.args.part.now.cell ++ c.args.other.now.cell in
    rw (p.1) (not_begun (strict_test cell) c.args.work.now c.tell.new.self (strict_tells cell) c.in_err-tell.ensures.err)

pub returns-in-Some-clause-makes : goal.returns-in-Some-clause-makes
returns-in-Some-clause-makes c =
    let cell = c.args.part.now.cell ++ c.args.other.now.cell in
    strict_told cell None (out_line c.in-Some.terms) c.args.work.now c.tell.new.self (no_points cell c.in-Some.terms c.in-Some.ensures) c.in-Some.ensures c.in_ok-tell.ensures.ok
