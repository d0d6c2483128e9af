use Rattle.std.proofs.Common.{List, [], map, refl, subst, arith}
use Rattle.std.proofs.lemmas.List.{length-map}
use Rattle.std.proofs.lemmas.Result.{err_from_is_err_and}
use Rattle.rp_semantics.specs.Walk.{first_tester}
use Rattle.rp_model.specs.states.State.{Lot}
use Rattle.rp_model.specs.commands.Subdivide.{row_subdivide}
use Rattle.rp_region.proofs.Behind.{behind_tells}
use Rattle.rp_region.proofs.Left.{not_begun}
use Rattle.rp_history.specs.Lots.{lots_in}
use Rattle.rp_lots.specs.Changes.{Changes as RowChanges, replaced_of}
use Rattle.rp_parcels.proofs.Behind.{subdivide_behind}
use Rattle.rp_parcels.proofs.Ends.{subdivide_ends}
use Rattle.rp_parcels.proofs.Fits.{subdivide_fits}
use Rattle.rp_parcels.proofs.Taken.{change_fits, change_shown, row_changed}
use Rattle.rp_parcels.specs.Register.{child_of}
use Rattle.rp_parcels.proofs.Sizes.{region_with_id, children_regions, children_few, children_short}
use Rattle.rp_parcels.proofs.parcels.Parcels.subdivide.Goals as goal

pub make-requires-clause-shown : goal.make-requires-clause-shown
make-requires-clause-shown c =
    let row = λ (ls : List (Lot (Unit {0}))). row_subdivide first_tester (lots_in [] ls) c.args.id (map child_of c.args.children.now) in
    let comes = subst (λ cs. RowChanges (replaced_of (λ form. form)) c.subdivide-came.result c.subdivide-came.new.tests (row_subdivide first_tester (lots_in [] c.keeper.result.parcels.now) c.args.id cs c.fresh-walked.result)) c.in_ok-children.ensures.each c.subdivide-came.ensures in
    change_shown row c.keeper.result.parcels.now c.args.self.now c.keeper.ensures.value c.args.work.now c.fresh-walked.result c.subdivide-came.new.tests c.args.work.now c.fresh-walked.ensures c.subdivide-came.result comes (subdivide_ends (lots_in [] c.args.self.now) c.args.id (map child_of c.args.children.now) (region_with_id c.args.self.now c.args.id c.keeper.ensures.sound) (children_regions c.in_ok-children.children (map child_of c.args.children.now) c.in_ok-children.ensures.each c.in_ok-children.ensures.regions))

pub make-requires-clause-fit : goal.make-requires-clause-fit
make-requires-clause-fit c =
    let row = λ (ls : List (Lot (Unit {0}))). row_subdivide first_tester (lots_in [] ls) c.args.id (map child_of c.args.children.now) in
    let comes = subst (λ cs. RowChanges (replaced_of (λ form. form)) c.subdivide-came.result c.subdivide-came.new.tests (row_subdivide first_tester (lots_in [] c.keeper.result.parcels.now) c.args.id cs c.fresh-walked.result)) c.in_ok-children.ensures.each c.subdivide-came.ensures in
    change_fits row c.keeper.result.parcels.now c.args.self.now c.keeper.ensures.value c.args.work.now c.fresh-walked.result c.subdivide-came.new.tests c.args.work.now c.fresh-walked.ensures c.subdivide-came.result comes c.args.line (subdivide_fits c.args.self.now c.keeper.ensures.sound c.args.line c.requires.later c.args.id (map child_of c.args.children.now) (children_regions c.in_ok-children.children (map child_of c.args.children.now) c.in_ok-children.ensures.each c.in_ok-children.ensures.regions) (let few = length-map c.args.children.now child_of in omega (arith, few, c.requires.few)))

pub returns-clause-row : goal.returns-clause-row
returns-clause-row c =
    let row = λ (ls : List (Lot (Unit {0}))). row_subdivide first_tester (lots_in [] ls) c.args.id (map child_of c.args.children.now) in
    let comes = subst (λ cs. RowChanges (replaced_of (λ form. form)) c.subdivide-came.result c.subdivide-came.new.tests (row_subdivide first_tester (lots_in [] c.keeper.result.parcels.now) c.args.id cs c.fresh-walked.result)) c.in_ok-children.ensures.each c.subdivide-came.ensures in
    row_changed row c.keeper.result.parcels.now c.args.self.now c.keeper.ensures.value c.args.work.now c.fresh-walked.result c.subdivide-came.new.tests c.make.new.work c.fresh-walked.ensures c.subdivide-came.result comes (subdivide_behind (lots_in [] c.args.self.now) c.args.id (map child_of c.args.children.now)) c.make.result c.args.line c.make.new.self c.make.ensures.made

pub returns-in_err-children-clause-row : goal.returns-in_err-children-clause-row
returns-in_err-children-clause-row c =
    let p = err_from_is_err_and c.from_residual.result c.from_residual.ensures.1 in
    let cs = map child_of c.args.children.now in
    let s = lots_in [] c.args.self.now in
    rw (p.1, p.2) (not_begun (row_subdivide first_tester s c.args.id cs) c.args.work.now c.args.work.now (behind_tells (row_subdivide first_tester s c.args.id cs) (subdivide_behind s c.args.id cs)) refl, refl)

pub subdivide-came-requires-clause-few : goal.subdivide-came-requires-clause-few
subdivide-came-requires-clause-few c =
    let few = length-map c.args.children.now child_of in
    children_few c.in_ok-children.children (map child_of c.args.children.now) c.in_ok-children.ensures.each 1024 (omega (arith, few, c.requires.few))

pub subdivide-came-requires-clause-short : goal.subdivide-came-requires-clause-short
subdivide-came-requires-clause-short c = children_short c.in_ok-children.children c.in_ok-children.ensures.regions
