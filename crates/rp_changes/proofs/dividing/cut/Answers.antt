use Rattle.std.proofs.Common.{[], ◌∷◌, ap, sym, ◌∙◌, subst}
use Rattle.std.proofs.lemmas.Result.{err_from_is_err_and}
use Rattle.rp_language.specs.Name.{Label}
use Rattle.rp_semantics.specs.Walk.{Outcome, done, pass, after_first}
use Rattle.rp_model.specs.states.State.{Change, lots_replaced}
use Rattle.rp_model.specs.commands.Reply.{Reply, accepted}
use Rattle.rp_model.specs.commands.Parts.{new_lot}
use Rattle.rp_oracle.specs.Refines.{StopsBy}
use Rattle.rp_oracle.proofs.Left.{stops_on}
use Rattle.rp_answer.specs.Replies.{EndsBy}
use Rattle.rp_history.proofs.Checked.{passes_first}
use Rattle.rp_lots.proofs.Names.{names_end, parts_here}
use Rattle.rp_changes.proofs.Divided.{cut_reply, with_inner, with_outer, cut_begins, outer_begins, room_begins}
use Rattle.rp_changes.proofs.dividing.cut.Goals as goal

pub returns-in_err-place : goal.returns-in_err-place
returns-in_err-place g c =
    let p = err_from_is_err_and c.from_residual.result c.from_residual.ensures.1 in
    let s = g.K.Keeper.state c.args.keeper.now in
    rw (p.1, p.2) (names_end c.in_err-place.field-0.0 _ _ c.args.tests.now (c.in_err-place.ensures.checks s c.history-history.ensures.value))

pub form_at-whole-requires : goal.form_at-whole-requires
form_at-whole-requires g c = c.in_ok-place.ensures.within (g.K.Keeper.state c.args.keeper.now) c.history-history.ensures.value

pub layer_of-layer-requires : goal.layer_of-layer-requires
layer_of-layer-requires g c s same = passes_first _ _ (c.in_ok-place.ensures.checks s same)

pub returns-in_err-inner : goal.returns-in_err-inner
returns-in_err-inner g c =
    let p = err_from_is_err_and c.from_residual-in_err-inner.result c.from_residual-in_err-inner.ensures.1 in
    let s = g.K.Keeper.state c.args.keeper.now in
    let tester = g.T.Oracle.tester in
    let whole = g.T.Oracle.parts_of c.form_at-whole.result.now in
    let ps = g.T.Oracle.parts_of c.args.by.now in
    let e = c.in_err-inner.field-0.0 in
    let new = c.inner_side.new.tests in
    let same = c.history-history.ensures.value in
    rw (p.1, p.2)
    (subst (λ (o : Outcome g.row.T.Denot Reply). EndsBy e new o)
    (sym (cut_begins tester s c.args.id c.args.first c.args.second whole ps c.args.tests.now (c.in_ok-place.ensures.checks s same) (parts_here c.args.id s c.in_ok-place.place whole (c.in_ok-place.ensures.lot s same) c.form_at-whole.ensures)))
    (c.in_err-inner.ensures (with_inner tester s c.args.id c.args.first c.args.second whole ps)))

pub returns-in_err-outer : goal.returns-in_err-outer
returns-in_err-outer g c =
    let p = err_from_is_err_and c.from_residual-in_err-outer.result c.from_residual-in_err-outer.ensures.1 in
    let s = g.K.Keeper.state c.args.keeper.now in
    let tester = g.T.Oracle.tester in
    let whole = g.T.Oracle.parts_of c.form_at-whole.result.now in
    let ps = g.T.Oracle.parts_of c.args.by.now in
    let inner = g.T.Oracle.parts_of c.in_ok-inner.inner in
    let e = c.in_err-outer.field-0.0 in
    let new = c.outer_side.new.tests in
    let same = c.history-history.ensures.value in
    rw (p.1, p.2)
    (subst (λ (o : Outcome g.row.T.Denot Reply). EndsBy e new o)
    (sym (outer_begins tester s c.args.id c.args.first c.args.second whole ps c.args.tests.now c.inner_side.new.tests inner (c.in_ok-place.ensures.checks s same) (parts_here c.args.id s c.in_ok-place.place whole (c.in_ok-place.ensures.lot s same) c.form_at-whole.ensures) (λ next. c.in_ok-inner.ensures next)))
    (c.in_err-outer.ensures (with_outer tester s c.args.id c.args.first c.args.second whole ps inner)))

pub returns-in_err-check_room_for_both : goal.returns-in_err-check_room_for_both
returns-in_err-check_room_for_both g c =
    let p = err_from_is_err_and c.from_residual-in_err-check_room_for_both.result c.from_residual-in_err-check_room_for_both.ensures.1 in
    let s = g.K.Keeper.state c.args.keeper.now in
    let tester = g.T.Oracle.tester in
    let x = c.args.id in
    let whole = g.T.Oracle.parts_of c.form_at-whole.result.now in
    let ps = g.T.Oracle.parts_of c.args.by.now in
    let inner = g.T.Oracle.parts_of c.in_ok-inner.inner in
    let outer = g.T.Oracle.parts_of c.in_ok-outer.outer in
    let v = c.outer_side.new.tests in
    let e = c.in_err-check_room_for_both.field-0.0 in
    let same = c.history-history.ensures.value in
    rw (p.1, p.2)
    (subst (λ (o : Outcome g.row.T.Denot Reply). StopsBy e v o)
    (sym (room_begins tester s x c.args.first c.args.second whole ps c.args.tests.now c.inner_side.new.tests v inner outer (c.in_ok-place.ensures.checks s same) (parts_here x s c.in_ok-place.place whole (c.in_ok-place.ensures.lot s same) c.form_at-whole.ensures) (λ next. c.in_ok-inner.ensures next) (λ next. c.in_ok-outer.ensures next)))
    (stops_on (λ _. pass (cut_reply s x c.args.first c.args.second inner outer)) e v _ (c.in_err-check_room_for_both.ensures v)))

pub returns : goal.returns
returns g c =
    let s = g.K.Keeper.state c.args.keeper.now in
    let tester = g.T.Oracle.tester in
    let x = c.args.id in
    let whole = g.T.Oracle.parts_of c.form_at-whole.result.now in
    let ps = g.T.Oracle.parts_of c.args.by.now in
    let inner = g.T.Oracle.parts_of c.in_ok-inner.inner in
    let outer = g.T.Oracle.parts_of c.in_ok-outer.outer in
    let v = c.outer_side.new.tests in
    let same = c.history-history.ensures.value in
    let new = c.in_ok-in_two.ensures g.T.Oracle.parts_of
    ∙ ap (λ (y : Label). lots_replaced (x ∷ []) (new_lot y c.args.first inner (x ∷ []) ∷ new_lot y c.args.second outer (x ∷ []) ∷ [])) (c.layer_of-layer.ensures s same) in
    room_begins tester s x c.args.first c.args.second whole ps c.args.tests.now c.inner_side.new.tests v inner outer (c.in_ok-place.ensures.checks s same) (parts_here x s c.in_ok-place.place whole (c.in_ok-place.ensures.lot s same) c.form_at-whole.ensures) (λ next. c.in_ok-inner.ensures next) (λ next. c.in_ok-outer.ensures next)
    ∙ ap (after_first (λ _. pass (cut_reply s x c.args.first c.args.second inner outer))) (c.in_ok-check_room_for_both.ensures v)
    ∙ ap (λ (d : Change (Unit {0})). done (accepted d) v) (sym new)
