use Rattle.std.proofs.lemmas.Result.{err_from_is_err_and}
use Rattle.rp_region.proofs.Left.{makes_left}
use Rattle.rp_region.proofs.Prisms.{first_failed, second_failed, second_left}
use Rattle.rp_region.proofs.region.Region.exchange.Goals as goal

pub returns-in_err-outside : goal.returns-in_err-outside
returns-in_err-outside c =
    let p = err_from_is_err_and c.from_residual.result c.from_residual.ensures.1 in
    rw (p.1, p.2) (first_failed c.args.self c.args.made c.args.work.now c.minus.new.work c.in_err-outside.field-0.0 c.in_err-outside.ensures.makes)

pub returns-in_err-added : goal.returns-in_err-added
returns-in_err-added c =
    let p = err_from_is_err_and c.from_residual-in_err-added.result c.from_residual-in_err-added.ensures.1 in
    rw (p.1, p.2)
    (second_failed c.args.self c.args.made c.in_ok-outside.outside c.args.work.now c.minus.new.work c.into_minus.new.work c.in_ok-outside.ensures.makes c.in_err-added.field-0.0 c.in_err-added.ensures.makes)

pub returns : goal.returns
returns c =
    makes_left (λ region. region) c.into_either.result c.into_either.new.work
    (second_left c.args.self c.args.made c.in_ok-outside.outside c.in_ok-added.added c.in_ok-outside.ensures.makes c.in_ok-added.ensures.makes)
    c.into_either.ensures.makes
