use Rattle.std.proofs.Common.{◌+◌, drop, ap, sym, ◌∙◌}
use Rattle.std.proofs.lemmas.List.{drop_all}
use Rattle.std.proofs.lemmas.Result.{err_from_is_err_and}
use Rattle.rp_algebra.proofs.Lists.{drop_item}
use Rattle.rp_model.specs.commands.Checks.{check_new, check_each}
use Rattle.rp_history.proofs.Checked.{each_fails, each_passes}
use Rattle.rp_history.proofs.history.History.check_all_new.Goals as goal

pub returns-in_err-check_new : goal.returns-in_err-check_new
returns-in_err-check_new c s same =
    let p = err_from_is_err_and c.from_residual.result c.from_residual.ensures.1 in
    let i = c.loop-id.id-index in
    let ids = c.args.ids.now in
    let x = c.id-item.result in
    rw (p.1, p.2) (each_fails c.in_err-check_new.field-0.0 (check_new s) x (drop (i + 1) ids) (drop i ids) (check_each (check_new s) ids) (drop_item ids i x c.loop-id-test.true c.id-item.is) (c.loop-id.invariant s same) (c.in_err-check_new.ensures.checks s same))

pub loop-id-preserved : goal.loop-id-preserved
loop-id-preserved c s same =
    let i = c.loop-id.id-index in
    let ids = c.args.ids.now in
    let x = c.id-item.result in
    each_passes (check_new s) x (drop (i + 1) ids) (drop i ids) (check_each (check_new s) ids) (drop_item ids i x c.loop-id-test.true c.id-item.is) (c.loop-id.invariant s same) (c.in_ok-check_new.ensures.checks s same)

pub returns : goal.returns
returns c s same = sym (c.loop-id.invariant s same) ∙ ap (check_each (check_new s)) (drop_all c.loop-id.id-index c.args.ids.now c.loop-id-test.false)
