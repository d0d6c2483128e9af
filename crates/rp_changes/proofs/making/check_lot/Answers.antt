use Rattle.std.proofs.Common.{◌==◌, length, ap}
use Rattle.std.proofs.lemmas.Result.{err_from_is_err_and}
use Rattle.rp_model.specs.commands.Checks.{refuse_if, check_new}
use Rattle.rp_model.specs.states.State.{parts_under_lots}
use Rattle.rp_model.specs.commands.Verdict.{empty}
use Rattle.rp_history.proofs.Checked.{fails_first}
use Rattle.rp_lots.proofs.Names.{names_end}
use Rattle.rp_changes.proofs.Counted.{are_none, are_some}
use Rattle.rp_changes.proofs.Alone.{new_id}
use Rattle.rp_lots.proofs.Steps.{no_room, has_room, second_fails}
use Rattle.rp_changes.proofs.making.check_lot.Goals as goal

pub returns-in_err-check_new-clause-row : goal.returns-in_err-check_new-clause-row
returns-in_err-check_new-clause-row g c w rest =
    let p = err_from_is_err_and c.from_residual.result c.from_residual.ensures.1 in
    let e = c.in_err-check_new.field-0.0 in
    rw (p.1, p.2) (names_end e _ _ w (fails_first e _ _ (c.in_err-check_new.ensures.checks (g.K.Keeper.state c.args.keeper.now) c.history.ensures.value)))

pub returns-then-parts-eq0-clause-row : goal.returns-then-parts-eq0-clause-row
returns-then-parts-eq0-clause-row g c w rest =
    let s = g.K.Keeper.state c.args.keeper.now in
    let ps = g.T.Oracle.parts_of c.args.form.now in
    second_fails rest w (check_new s c.args.id) (refuse_if (length ps == 0) empty) empty _ (c.in_ok-check_new.ensures.checks s c.history.ensures.value)
    (ap (λ b. refuse_if b empty) (are_none c.count_parts-parts.result (length ps) c.count_parts-parts.ensures c.if-parts-eq0.true))

pub returns-in_err-check_room-clause-row : goal.returns-in_err-check_room-clause-row
returns-in_err-check_room-clause-row g c w rest =
    let p = err_from_is_err_and c.from_residual-in_err-check_room.result c.from_residual-in_err-check_room.ensures.1 in
    let s = g.K.Keeper.state c.args.keeper.now in
    let ps = g.T.Oracle.parts_of c.args.form.now in
    rw (p.1, p.2)
    (no_room rest w (check_new s c.args.id) (refuse_if (length ps == 0) empty) (parts_under_lots s.lots) c.count_parts-parts.result (length ps) c.in_err-check_room.field-0.0 (c.in_ok-check_new.ensures.checks s c.history.ensures.value)
    (ap (λ b. refuse_if b empty) (are_some c.count_parts-parts.result (length ps) c.count_parts-parts.ensures c.if-parts-eq0.false)) c.count_parts-parts.ensures (c.in_err-check_room.ensures w))

pub returns-clause-row : goal.returns-clause-row
returns-clause-row g c w rest =
    let s = g.K.Keeper.state c.args.keeper.now in
    let ps = g.T.Oracle.parts_of c.args.form.now in
    has_room rest w (check_new s c.args.id) (refuse_if (length ps == 0) empty) (parts_under_lots s.lots) c.count_parts-parts.result (length ps) (c.in_ok-check_new.ensures.checks s c.history.ensures.value)
    (ap (λ b. refuse_if b empty) (are_some c.count_parts-parts.result (length ps) c.count_parts-parts.ensures c.if-parts-eq0.false)) c.count_parts-parts.ensures (c.in_ok-check_room.ensures w)

pub returns-clause-new : goal.returns-clause-new
returns-clause-new g c = let s = g.K.Keeper.state c.args.keeper.now in new_id s c.args.id (c.in_ok-check_new.ensures.checks s c.history.ensures.value)
