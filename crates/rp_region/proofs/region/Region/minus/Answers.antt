use Rattle.std.proofs.Common.{refl}
use Rattle.std.proofs.lemmas.Result.{err_from_is_err_and}
use Rattle.rp_semantics.specs.Walk.{first_tester}
use Rattle.rp_semantics.specs.Form.{subtract}
use Rattle.rp_region.proofs.Grows.{subtract_tells}
use Rattle.rp_region.proofs.Left.{not_begun}
use Rattle.rp_region.proofs.region.Region.minus.Goals as goal

pub returns-in_err-first-clause-makes : goal.returns-in_err-first-clause-makes
returns-in_err-first-clause-makes c =
    let p = err_from_is_err_and c.from_residual.result c.from_residual.ensures.1 in
    rw (p.1, p.2) (not_begun (subtract first_tester c.args.self.now c.args.other.now) c.args.work.now c.args.work.now (subtract_tells c.args.self.now c.args.other.now) refl)
