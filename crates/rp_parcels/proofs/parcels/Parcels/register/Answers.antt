use Rattle.std.proofs.Common.{List}
use Rattle.rp_semantics.specs.Walk.{first_tester}
use Rattle.rp_model.specs.states.State.{Lot}
use Rattle.rp_model.specs.commands.Register.{row_register}
use Rattle.rp_history.specs.Lots.{lots_in}
use Rattle.rp_parcels.proofs.Behind.{register_behind}
use Rattle.rp_parcels.proofs.Ends.{register_ends}
use Rattle.rp_parcels.proofs.Fits.{register_fits}
use Rattle.rp_parcels.proofs.Taken.{change_fits, change_shown, row_changed}
use Rattle.rp_parcels.proofs.parcels.Parcels.register.Goals as goal

pub make-requires-clause-shown : goal.make-requires-clause-shown
make-requires-clause-shown g c =
    let row = λ (ls : List (Lot (Unit {0}))). row_register first_tester (lots_in c.args.layer ls) c.args.id c.args.region in
    change_shown row c.keeper.result.parcels.now c.args.self.now c.keeper.ensures.value c.args.work.now c.fresh-walked.result c.make_lot-came.new.tests c.args.work.now c.fresh-walked.ensures c.make_lot-came.result c.make_lot-came.ensures (register_ends (lots_in c.args.layer c.args.self.now) c.args.id c.args.region)

pub make-requires-clause-fit : goal.make-requires-clause-fit
make-requires-clause-fit g c =
    let row = λ (ls : List (Lot (Unit {0}))). row_register first_tester (lots_in c.args.layer ls) c.args.id c.args.region in
    change_fits row c.keeper.result.parcels.now c.args.self.now c.keeper.ensures.value c.args.work.now c.fresh-walked.result c.make_lot-came.new.tests c.args.work.now c.fresh-walked.ensures c.make_lot-came.result c.make_lot-came.ensures c.args.line (register_fits c.args.self.now c.keeper.ensures.sound c.args.line c.requires c.args.layer c.args.id c.args.region c.parts.ensures.kept)

pub returns-clause-row : goal.returns-clause-row
returns-clause-row g c =
    let row = λ (ls : List (Lot (Unit {0}))). row_register first_tester (lots_in c.args.layer ls) c.args.id c.args.region in
    row_changed row c.keeper.result.parcels.now c.args.self.now c.keeper.ensures.value c.args.work.now c.fresh-walked.result c.make_lot-came.new.tests c.make.new.work c.fresh-walked.ensures c.make_lot-came.result c.make_lot-came.ensures (register_behind (lots_in c.args.layer c.args.self.now) c.args.id c.args.region) c.make.result c.args.line c.make.new.self c.make.ensures.made
