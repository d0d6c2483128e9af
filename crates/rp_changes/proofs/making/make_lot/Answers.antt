use Rattle.std.proofs.Common.{[], ◌∷◌, ap, sym, ◌∙◌, subst}
use Rattle.std.proofs.lemmas.Result.{err_from_is_err_and}
use Rattle.rp_semantics.specs.Walk.{done, pass}
use Rattle.rp_model.specs.states.State.{Change, live_lots, lots_of_layer, lots_replaced}
use Rattle.rp_model.specs.commands.Reply.{accepted}
use Rattle.rp_model.specs.commands.Parts.{new_lot}
use Rattle.rp_answer.specs.Replies.{EndsBy}
use Rattle.rp_changes.specs.Steps.{lots_tested}
use Rattle.rp_changes.proofs.making.make_lot.Goals as goal

pub returns-in_err-check_lot : goal.returns-in_err-check_lot
returns-in_err-check_lot g c =
    let p = err_from_is_err_and c.from_residual.result c.from_residual.ensures.1 in
    let s = g.K.Keeper.state c.args.keeper.now in
    let ps = g.T.Oracle.parts_of c.args.form in
    rw (p.1, p.2)
    (c.in_err-check_lot.ensures.row c.args.tests.now
    (lots_tested g.T.Oracle.tester ps (lots_of_layer c.args.layer (live_lots s.lots)) (pass (accepted (lots_replaced [] (new_lot c.args.layer c.args.id ps [] ∷ []))))))

pub returns-in_err-check_alone : goal.returns-in_err-check_alone
returns-in_err-check_alone g c =
    let p = err_from_is_err_and c.from_residual-in_err-check_alone.result c.from_residual-in_err-check_alone.ensures.1 in
    let s = g.K.Keeper.state c.args.keeper.now in
    let ps = g.T.Oracle.parts_of c.args.form in
    let reply = pass (accepted (lots_replaced [] (new_lot c.args.layer c.args.id ps [] ∷ []))) in
    rw (p.1, p.2)
    (subst (EndsBy c.in_err-check_alone.field-0.0 c.check_alone.new.tests) (sym (c.in_ok-check_lot.ensures.row c.args.tests.now (lots_tested g.T.Oracle.tester ps (lots_of_layer c.args.layer (live_lots s.lots)) reply)))
    (c.in_err-check_alone.ensures reply))

pub returns : goal.returns
returns g c =
    let s = g.K.Keeper.state c.args.keeper.now in
    let parts_of = g.T.Oracle.parts_of in
    let ps = parts_of c.args.form in
    let reply = pass (accepted (lots_replaced [] (new_lot c.args.layer c.args.id ps [] ∷ []))) in
    c.in_ok-check_lot.ensures.row c.args.tests.now (lots_tested g.T.Oracle.tester ps (lots_of_layer c.args.layer (live_lots s.lots)) reply)
    ∙ c.in_ok-check_alone.ensures reply
    ∙ ap (λ (d : Change (Unit {0})). done (accepted d) c.check_alone.new.tests) (sym (c.in_ok-registered.ensures parts_of))
