use Rattle.std.proofs.Common.{sym, ◌∙◌}
use Rattle.std.proofs.lemmas.Result.{err_from_is_err_and}
use Rattle.rp_model.specs.commands.Subdivide.{row_subdivide}
use Rattle.rp_subdivide.specs.Children.{formed_children}
use Rattle.rp_subdivide.proofs.ChildLemmas.{shape_missing, children_stop, children_made}
use Rattle.rp_lots.proofs.BornLots.{replaced_row}
use Rattle.rp_subdivide.proofs.order.subdivision.Goals as goal

pub returns-in-Some : goal.returns-in-Some
returns-in-Some g c = shape_missing g.T.Oracle.tester (g.K.Keeper.state c.args.keeper.now) c.args.id c.args.entries.now c.in-Some.name c.args.tests.now (sym c.in-Some.is ∙ c.first_unknown_shape.ensures)

pub returns-in_err-children : goal.returns-in_err-children
returns-in_err-children g c =
    let p = err_from_is_err_and c.from_residual.result c.from_residual.ensures.1 in
    rw (p.1, p.2)
    (children_stop g.T.Oracle.tester (g.K.Keeper.state c.args.keeper.now) c.args.id c.args.entries.now (sym c.in_default.is ∙ c.first_unknown_shape.ensures) c.args.tests.now c.children.new.tests c.in_err-children.field-0.0 c.in_err-children.ensures.comes)

pub returns : goal.returns
returns g c =
    let view = g.T.Oracle.parts_of in
    let tester = g.T.Oracle.tester in
    let s = g.K.Keeper.state c.args.keeper.now in
    let cs = formed_children view c.in_ok-children.children in
    replaced_row view c.subdivide.result c.replacing.result c.subdivide.new.tests (row_subdivide tester s c.args.id cs c.children.new.tests) _ c.replacing.ensures
    (children_made tester s c.args.id c.args.entries.now (sym c.in_default.is ∙ c.first_unknown_shape.ensures) c.args.tests.now c.children.new.tests cs c.in_ok-children.ensures.comes) c.subdivide.ensures
