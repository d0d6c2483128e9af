use Rattle.std.proofs.Common.{List, []}
use Rattle.rp_model.specs.states.State.{Lot}
use Rattle.rp_model.specs.commands.Consolidate.{row_consolidate}
use Rattle.rp_history.specs.Lots.{lots_in}
use Rattle.rp_parcels.proofs.Behind.{consolidate_behind}
use Rattle.rp_parcels.proofs.Ends.{consolidate_ends}
use Rattle.rp_parcels.proofs.Fits.{consolidate_fits}
use Rattle.rp_parcels.proofs.Taken.{change_fits, change_shown, row_changed}
use Rattle.rp_parcels.proofs.parcels.Parcels.consolidate.Goals as goal

pub make-requires-clause-shown : goal.make-requires-clause-shown
make-requires-clause-shown c =
    let row = λ (ls : List (Lot (Unit {0}))). row_consolidate (lots_in [] ls) c.args.new c.args.ids.now in
    change_shown row c.keeper.result.parcels.now c.args.self.now c.keeper.ensures.value c.args.work.now c.fresh-walked.result c.consolidate-came.new.tests c.args.work.now c.fresh-walked.ensures c.consolidate-came.result c.consolidate-came.ensures (consolidate_ends (lots_in [] c.args.self.now) c.args.new c.args.ids.now)

pub make-requires-clause-fit : goal.make-requires-clause-fit
make-requires-clause-fit c =
    let row = λ (ls : List (Lot (Unit {0}))). row_consolidate (lots_in [] ls) c.args.new c.args.ids.now in
    change_fits row c.keeper.result.parcels.now c.args.self.now c.keeper.ensures.value c.args.work.now c.fresh-walked.result c.consolidate-came.new.tests c.args.work.now c.fresh-walked.ensures c.consolidate-came.result c.consolidate-came.ensures c.args.line (consolidate_fits c.args.self.now c.keeper.ensures.sound c.args.line c.requires c.args.new c.args.ids.now)

pub returns-clause-row : goal.returns-clause-row
returns-clause-row c =
    let row = λ (ls : List (Lot (Unit {0}))). row_consolidate (lots_in [] ls) c.args.new c.args.ids.now in
    row_changed row c.keeper.result.parcels.now c.args.self.now c.keeper.ensures.value c.args.work.now c.fresh-walked.result c.consolidate-came.new.tests c.make.new.work c.fresh-walked.ensures c.consolidate-came.result c.consolidate-came.ensures (consolidate_behind (lots_in [] c.args.self.now) c.args.new c.args.ids.now) c.make.result c.args.line c.make.new.self c.make.ensures.made
