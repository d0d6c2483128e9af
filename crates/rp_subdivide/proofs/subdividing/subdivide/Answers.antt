use Rattle.std.proofs.Common.{◌≡◌, List, [], ◌∷◌, map, ap, sym, ◌∙◌, subst}
use Rattle.std.proofs.lemmas.Result.{err_from_is_err_and}
use Rattle.rp_geometry.specs.sets.Shape.{Part}
use Rattle.rp_language.specs.Name.{Label}
use Rattle.rp_semantics.specs.Walk.{done, pass, Walk, Tester}
use Rattle.rp_model.specs.states.State.{PlainState, Change, layer_with_id, lots_replaced}
use Rattle.rp_model.specs.commands.Reply.{Reply, accepted}
use Rattle.rp_model.specs.commands.Subdivide.{FormedChild, row_subdivide}
use Rattle.rp_model.specs.commands.Parts.{new_lot, parts_with_id}
use Rattle.rp_answer.specs.Replies.{EndsBy}
use Rattle.rp_lots.proofs.Names.{parts_here}
use Rattle.rp_subdivide.specs.Children.{formed_child, formed_children}
use Rattle.rp_subdivide.specs.Steps.{inside_tested, apart_tested, cover_tested}
use Rattle.rp_subdivide.proofs.subdividing.subdivide.Goals as goal

-- the lots that are made
abbrev made : PlainState → Label → List FormedChild → Change (Unit {0})
made s x cs = lots_replaced (x ∷ []) (map (λ c. new_lot (layer_with_id s x) c.id c.parts (x ∷ [])) cs)

-- what is tested behind the checks
abbrev tested : {W : Type 0} → Tester W → PlainState → Label → List FormedChild → List Part → Walk W Reply
tested tester s x cs qs = inside_tested tester qs cs (apart_tested tester cs (cover_tested tester qs cs (pass (accepted (made s x cs)))))

pub returns-in_err-place : goal.returns-in_err-place
returns-in_err-place g c =
    let p = err_from_is_err_and c.from_residual.result c.from_residual.ensures.1 in
    let s = g.K.Keeper.state c.args.keeper.now in
    let x = c.args.id in
    let tester = g.T.Oracle.tester in
    let view = g.T.Oracle.parts_of in
    let w = c.args.tests.now in
    let cs = map (formed_child view) c.items-list.result.now in
    let e = c.in_err-place.field-0.0 in
    rw (p.1, p.2)
    (subst (λ ds. EndsBy e w (row_subdivide tester s x (map (formed_child view) ds) w)) c.items-list.ensures
    (c.in_err-place.ensures.row w (tested tester s x cs (parts_with_id s x))))

pub returns-in_err-check_division : goal.returns-in_err-check_division
returns-in_err-check_division g c =
    let p = err_from_is_err_and c.from_residual-in_err-check_division.result c.from_residual-in_err-check_division.ensures.1 in
    let s = g.K.Keeper.state c.args.keeper.now in
    let x = c.args.id in
    let tester = g.T.Oracle.tester in
    let view = g.T.Oracle.parts_of in
    let w = c.args.tests.now in
    let cs = map (formed_child view) c.items-list.result.now in
    let whole = view c.form_at-whole.result.now in
    let own = parts_here x s c.in_ok-place.place whole c.in_ok-place.ensures.lot c.form_at-whole.ensures in
    let e = c.in_err-check_division.field-0.0 in
    let v = c.check_division.new.tests in
    rw (p.1, p.2)
    (subst (λ ds. EndsBy e v (row_subdivide tester s x (map (formed_child view) ds) w)) c.items-list.ensures
    (subst (EndsBy e v) (sym (c.in_ok-place.ensures.row w (tested tester s x cs (parts_with_id s x)) ∙ ap (λ (qs : List Part). tested tester s x cs qs w) (sym own)))
    (c.in_err-check_division.ensures (pass (accepted (made s x cs))))))

pub layer_of-layer-requires : goal.layer_of-layer-requires
layer_of-layer-requires g c s same = c.in_ok-place.ensures.live s (sym c.history.ensures.value ∙ same)

pub returns : goal.returns
returns g c =
    let s = g.K.Keeper.state c.args.keeper.now in
    let x = c.args.id in
    let tester = g.T.Oracle.tester in
    let view = g.T.Oracle.parts_of in
    let w = c.args.tests.now in
    let v = c.check_division.new.tests in
    let cs = map (formed_child view) c.items-list.result.now in
    let whole = view c.form_at-whole.result.now in
    let own = parts_here x s c.in_ok-place.place whole c.in_ok-place.ensures.lot c.form_at-whole.ensures in
    let born = c.in_ok-children_born.ensures view ∙ ap (λ (y : Label). lots_replaced (x ∷ []) (map (λ (f : FormedChild). new_lot y f.id f.parts (x ∷ [])) (formed_children view c.args.children))) (c.layer_of-layer.ensures s c.history.ensures.value) in
    subst (λ ds. row_subdivide tester s x (map (formed_child view) ds) w ≡ done (accepted (made s x (map (formed_child view) ds))) v) c.items-list.ensures
    (c.in_ok-place.ensures.row w (tested tester s x cs (parts_with_id s x))
    ∙ ap (λ (qs : List Part). tested tester s x cs qs w) (sym own)
    ∙ c.in_ok-check_division.ensures (pass (accepted (made s x cs))))
    ∙ ap (λ (d : Change (Unit {0})). done (accepted d) v) (sym born)
