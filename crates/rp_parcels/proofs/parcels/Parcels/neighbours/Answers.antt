use Rattle.std.proofs.Common.{List, [], subst}
use Rattle.rp_semantics.specs.Walk.{first_tester}
use Rattle.rp_model.specs.states.State.{Lot}
use Rattle.rp_model.specs.commands.Neighbours.{row_neighbours}
use Rattle.rp_model.specs.commands.Reply.{reply_lines}
use Rattle.rp_history.specs.Lots.{lots_in}
use Rattle.rp_contacts.specs.Asked.{Answers}
use Rattle.rp_parcels.proofs.Behind.{neighbours_behind}
use Rattle.rp_parcels.proofs.Ends.{neighbours_ends}
use Rattle.rp_parcels.proofs.Taken.{end_shown, row_answered}
use Rattle.rp_model.specs.commands.Verdict.{neighbour_lines}
use Rattle.rp_parcels.proofs.parcels.Parcels.neighbours.Goals as goal

pub answered-requires : goal.answered-requires
answered-requires g c =
    let row = λ (ls : List (Lot (Unit {0}))). row_neighbours first_tester (lots_in [] ls) c.args.id in
    let comes = subst (λ ls. Answers (λ ids. reply_lines (neighbour_lines ids.items)) c.neighbours-came.result c.neighbours-came.new.work (row ls c.fresh-walked.result)) c.keeper-keeper.ensures.value c.neighbours-came.ensures.row in
    end_shown (λ ids. reply_lines (neighbour_lines ids.items)) c.neighbours-came.result c.neighbours-came.new.work (row c.args.self.now c.fresh-walked.result) (neighbours_ends (lots_in [] c.args.self.now) c.args.id c.fresh-walked.result) comes

pub returns : goal.returns
returns g c =
    let row = λ (ls : List (Lot (Unit {0}))). row_neighbours first_tester (lots_in [] ls) c.args.id in
    let comes = subst (λ ls. Answers (λ ids. reply_lines (neighbour_lines ids.items)) c.neighbours-came.result c.neighbours-came.new.work (row ls c.fresh-walked.result)) c.keeper-keeper.ensures.value c.neighbours-came.ensures.row in
    record { row = row_answered (λ ids. reply_lines (neighbour_lines ids.items)) (row c.args.self.now) (neighbours_behind (lots_in [] c.args.self.now) c.args.id) c.args.work.now c.fresh-walked.result c.neighbours-came.new.work c.answered.new.work c.fresh-walked.ensures c.neighbours-came.result comes c.answered.result c.answered.ensures.taken }
