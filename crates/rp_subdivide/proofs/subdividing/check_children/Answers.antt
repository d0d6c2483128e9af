use Rattle.std.proofs.Common.{map, length, sym, ap, ◌∙◌}
use Rattle.std.specs.Prelude.{option_map}
use Rattle.std.proofs.lemmas.Result.{err_from_is_err_and}
use Rattle.rp_model.specs.states.State.{parts_under_lots}
use Rattle.rp_model.specs.commands.Verdict.{empty_child}
use Rattle.rp_model.specs.commands.Checks.{check_subdivide}
use Rattle.rp_model.specs.commands.Subdivide.{FormedChild, child_parts, first_empty_child}
use Rattle.rp_model.specs.commands.Parts.{joined_parts}
use Rattle.rp_history.proofs.Checked.{fails_first, fails_as, divided_is_live}
use Rattle.rp_lots.proofs.Names.{names_end}
use Rattle.rp_subdivide.specs.Children.{formed_child}
use Rattle.rp_lots.proofs.Steps.{no_room, has_room, second_fails}
use Rattle.rp_subdivide.proofs.subdividing.check_children.Goals as goal

pub returns-in_err-place-clause-row : goal.returns-in_err-place-clause-row
returns-in_err-place-clause-row g c w rest =
    let p = err_from_is_err_and c.from_residual-in_err-place.result c.from_residual-in_err-place.ensures.1 in
    let s = g.K.Keeper.state c.args.keeper.now in
    let e = c.in_err-place.field-0.0 in
    let names = c.items.ensures ∙ c.in_ok-ids.ensures in
    rw (p.1, p.2) (names_end e _ _ w (fails_first e _ _ (fails_as e _ _ (ap (check_subdivide s c.args.id) names) (c.in_err-place.ensures.checks s c.history.ensures.value))))

pub returns-in-Some-clause-row : goal.returns-in-Some-clause-row
returns-in-Some-clause-row g c w rest =
    let s = g.K.Keeper.state c.args.keeper.now in
    let cs = map (formed_child g.T.Oracle.parts_of) c.args.children.now in
    let named = sym (ap (check_subdivide s c.args.id) (c.items.ensures ∙ c.in_ok-ids.ensures)) ∙ c.in_ok-place.ensures.checks s c.history.ensures.value in
    second_fails rest w (check_subdivide s c.args.id (map (λ (f : FormedChild). f.id) cs)) (first_empty_child 1 cs) (empty_child c.in-Some.number) _ named (sym c.first_empty.ensures ∙ ap (option_map empty_child) c.in-Some.is)

pub returns-in_err-check_room-clause-row : goal.returns-in_err-check_room-clause-row
returns-in_err-check_room-clause-row g c w rest =
    let p = err_from_is_err_and c.from_residual-in_err-check_room.result c.from_residual-in_err-check_room.ensures.1 in
    let s = g.K.Keeper.state c.args.keeper.now in
    let cs = map (formed_child g.T.Oracle.parts_of) c.args.children.now in
    let named = sym (ap (check_subdivide s c.args.id) (c.items.ensures ∙ c.in_ok-ids.ensures)) ∙ c.in_ok-place.ensures.checks s c.history.ensures.value in
    rw (p.1, p.2)
    (no_room rest w (check_subdivide s c.args.id (map (λ (f : FormedChild). f.id) cs)) (first_empty_child 1 cs) (parts_under_lots s.lots) c.count_all.result (length (joined_parts (child_parts cs))) c.in_err-check_room.field-0.0 named (sym c.first_empty.ensures ∙ ap (option_map empty_child) c.in_default.is) c.count_all.ensures (c.in_err-check_room.ensures w))

pub returns-clause-row : goal.returns-clause-row
returns-clause-row g c w rest =
    let s = g.K.Keeper.state c.args.keeper.now in
    let cs = map (formed_child g.T.Oracle.parts_of) c.args.children.now in
    let named = sym (ap (check_subdivide s c.args.id) (c.items.ensures ∙ c.in_ok-ids.ensures)) ∙ c.in_ok-place.ensures.checks s c.history.ensures.value in
    has_room rest w (check_subdivide s c.args.id (map (λ (f : FormedChild). f.id) cs)) (first_empty_child 1 cs) (parts_under_lots s.lots) c.count_all.result (length (joined_parts (child_parts cs))) named (sym c.first_empty.ensures ∙ ap (option_map empty_child) c.in_default.is) c.count_all.ensures (c.in_ok-check_room.ensures w)

pub returns-clause-live : goal.returns-clause-live
returns-clause-live g c s same = divided_is_live s c.args.id c.items.result.now (c.in_ok-place.ensures.checks s (c.history.ensures.value ∙ same))

pub returns-clause-lot : goal.returns-clause-lot
returns-clause-lot g c = let s = g.K.Keeper.state c.args.keeper.now in c.in_ok-place.ensures.lot s c.history.ensures.value

pub returns-clause-within : goal.returns-clause-within
returns-clause-within g c = let s = g.K.Keeper.state c.args.keeper.now in c.in_ok-place.ensures.within s c.history.ensures.value
