use Rattle.std.proofs.lemmas.Result.{err_from_is_err_and}
use Rattle.rp_trail.proofs.Prisms.{first_stops, second_stops}
use Rattle.rp_trail.proofs.prism.exchange.Goals as goal

pub returns-in_err-form : goal.returns-in_err-form
returns-in_err-form c =
    let p = err_from_is_err_and c.from_residual.result c.from_residual.ensures.1 in
    rw (p.1, p.2) (first_stops c.args.current.now.items c.args.new.now.items c.args.trail.now c.differed.new.trail c.in_err-form.field-0.0 c.in_err-form.ensures.comes)

pub returns-in_err-added : goal.returns-in_err-added
returns-in_err-added c =
    let p = err_from_is_err_and c.from_residual-in_err-added.result c.from_residual-in_err-added.ensures.1 in
    rw (p.1, p.2)
    (second_stops c.args.current.now.items c.args.new.now.items c.in_ok-form.form.items c.args.trail.now c.differed.new.trail c.differed-2.new.trail c.in_ok-form.ensures.comes c.in_err-added.field-0.0 c.in_err-added.ensures.comes)
