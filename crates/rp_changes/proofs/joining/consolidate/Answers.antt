use Rattle.std.proofs.Common.{◌≡◌, ◌+◌, ℕ, [], ◌∷◌, length, refl, sym, ap, ◌∙◌, subst}
use Rattle.std.proofs.lemmas.Result.{err_from_is_err_and}
use Rattle.rp_language.specs.Name.{Label}
use Rattle.rp_semantics.specs.Walk.{done, pass}
use Rattle.rp_model.specs.states.State.{Change, parts_under_lots, lots_replaced, most_kept_parts}
use Rattle.rp_model.specs.commands.Reply.{accepted, check_size}
use Rattle.rp_model.specs.commands.Parts.{new_lot}
use Rattle.rp_oracle.specs.Refines.{StopsBy}
use Rattle.rp_oracle.proofs.Left.{next_left, stop_left, end_left}
use Rattle.rp_lots.proofs.Names.{names_end}
use Rattle.rp_changes.proofs.United.{united_lot, parts_are_few, parts_are_many}
use Rattle.rp_changes.proofs.joining.consolidate.Goals as goal

pub returns-in_err-layer : goal.returns-in_err-layer
returns-in_err-layer g c =
    let p = err_from_is_err_and c.from_residual.result c.from_residual.ensures.1 in
    rw (p.1, p.2) (names_end c.in_err-layer.field-0.0 _ _ c.args.tests.now (c.in_err-layer.ensures.checks (g.K.Keeper.state c.args.keeper.now) c.history.ensures.value))

pub returns-in_err-form : goal.returns-in_err-form
returns-in_err-form g c =
    let p = err_from_is_err_and c.from_residual-in_err-form.result c.from_residual-in_err-form.ensures.1 in
    let s = g.K.Keeper.state c.args.keeper.now in
    rw (p.1, p.2) (parts_are_many s c.args.new c.args.ids.now c.args.tests.now c.united.new.tests c.in_err-form.field-0.0 (c.in_ok-layer.ensures.checks s c.history.ensures.value) c.in_err-form.ensures)

pub returns-in_err-check_room : goal.returns-in_err-check_room
returns-in_err-check_room g c =
    let p = err_from_is_err_and c.from_residual-in_err-check_room.result c.from_residual-in_err-check_room.ensures.1 in
    let s = g.K.Keeper.state c.args.keeper.now in
    let x = c.args.new in
    let ids = c.args.ids.now in
    let ps = g.T.Oracle.parts_of c.in_ok-form.form in
    let u = c.united.new.tests in
    let e = c.in_err-check_room.field-0.0 in
    rw (p.1, p.2)
    (stop_left (check_size (parts_under_lots s.lots + length ps) most_kept_parts) (λ _. pass (united_lot s x ids ps))
    (parts_are_few s x ids ps c.args.tests.now u (c.in_ok-layer.ensures.checks s c.history.ensures.value) c.in_ok-form.ensures) e u
    (subst (λ (n : ℕ). StopsBy e u (check_size (parts_under_lots s.lots + n) most_kept_parts u)) c.count_parts.ensures (c.in_err-check_room.ensures u)))

pub returns : goal.returns
returns g c =
    let s = g.K.Keeper.state c.args.keeper.now in
    let x = c.args.new in
    let ids = c.args.ids.now in
    let parts_of = g.T.Oracle.parts_of in
    let ps = parts_of c.in_ok-form.form in
    let u = c.united.new.tests in
    let room = subst (λ (n : ℕ). check_size (parts_under_lots s.lots + n) most_kept_parts u ≡ done tt u) c.count_parts.ensures (c.in_ok-check_room.ensures u) in
    let new = c.in_ok-consolidated.ensures parts_of ∙ ap (λ (y : Label). lots_replaced ids (new_lot y x ps ids ∷ [])) (c.in_ok-layer.ensures.layer s c.history.ensures.value) in
    end_left (done (united_lot s x ids ps) u)
    (next_left (check_size (parts_under_lots s.lots + length ps) most_kept_parts) (λ _. pass (united_lot s x ids ps)) (parts_are_few s x ids ps c.args.tests.now u (c.in_ok-layer.ensures.checks s c.history.ensures.value) c.in_ok-form.ensures) room) refl
    ∙ ap (λ (d : Change (Unit {0})). done (accepted d) u) (sym new)
