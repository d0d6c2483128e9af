use Rattle.std.proofs.Common.{List, []}
use Rattle.rp_semantics.specs.Walk.{first_tester}
use Rattle.rp_model.specs.states.State.{Lot}
use Rattle.rp_model.specs.commands.Cut.{row_cut}
use Rattle.rp_history.specs.Lots.{lots_in}
use Rattle.rp_parcels.proofs.Behind.{cut_behind}
use Rattle.rp_parcels.proofs.Ends.{cut_ends}
use Rattle.rp_parcels.proofs.Fits.{cut_fits}
use Rattle.rp_parcels.proofs.Taken.{change_fits, change_shown, row_changed}
use Rattle.rp_parcels.proofs.parcels.Parcels.cut.Goals as goal

pub make-requires-clause-shown : goal.make-requires-clause-shown
make-requires-clause-shown c =
    let row = λ (ls : List (Lot (Unit {0}))). row_cut first_tester (lots_in [] ls) c.args.id c.args.by.now c.args.first c.args.second in
    change_shown row c.keeper.result.parcels.now c.args.self.now c.keeper.ensures.value c.args.work.now c.fresh-walked.result c.cut-came.new.tests c.args.work.now c.fresh-walked.ensures c.cut-came.result c.cut-came.ensures (cut_ends (lots_in [] c.args.self.now) c.args.id c.args.by.now c.args.first c.args.second)

pub make-requires-clause-fit : goal.make-requires-clause-fit
make-requires-clause-fit c =
    let row = λ (ls : List (Lot (Unit {0}))). row_cut first_tester (lots_in [] ls) c.args.id c.args.by.now c.args.first c.args.second in
    change_fits row c.keeper.result.parcels.now c.args.self.now c.keeper.ensures.value c.args.work.now c.fresh-walked.result c.cut-came.new.tests c.args.work.now c.fresh-walked.ensures c.cut-came.result c.cut-came.ensures c.args.line (cut_fits c.args.self.now c.keeper.ensures.sound c.args.line c.requires c.args.id c.args.by.now c.args.first c.args.second c.parts.ensures.kept)

pub returns-clause-row : goal.returns-clause-row
returns-clause-row c =
    let row = λ (ls : List (Lot (Unit {0}))). row_cut first_tester (lots_in [] ls) c.args.id c.args.by.now c.args.first c.args.second in
    row_changed row c.keeper.result.parcels.now c.args.self.now c.keeper.ensures.value c.args.work.now c.fresh-walked.result c.cut-came.new.tests c.make.new.work c.fresh-walked.ensures c.cut-came.result c.cut-came.ensures (cut_behind (lots_in [] c.args.self.now) c.args.id c.args.by.now c.args.first c.args.second) c.make.result c.args.line c.make.new.self c.make.ensures.made
