use Rattle.std.proofs.Common.{List, [], subst}
use Rattle.rp_semantics.specs.Walk.{first_tester}
use Rattle.rp_model.specs.states.State.{Lot}
use Rattle.rp_model.specs.commands.Access.{row_access}
use Rattle.rp_history.specs.Lots.{lots_in}
use Rattle.rp_contacts.specs.Asked.{Answers}
use Rattle.rp_parcels.proofs.Behind.{access_behind}
use Rattle.rp_parcels.proofs.Ends.{access_ends}
use Rattle.rp_parcels.proofs.Taken.{end_shown, row_answered}
use Rattle.rp_parcels.specs.Access.{access_reply}
use Rattle.rp_parcels.proofs.parcels.Parcels.access.Goals as goal

pub answered-requires : goal.answered-requires
answered-requires g c =
    let row = λ (ls : List (Lot (Unit {0}))). row_access first_tester (lots_in [] ls) c.args.from c.args.to in
    let comes = subst (λ ls. Answers (access_reply) c.access-came.result c.access-came.new.work (row ls c.fresh-walked.result)) c.keeper-keeper.ensures.value c.access-came.ensures in
    end_shown (access_reply) c.access-came.result c.access-came.new.work (row c.args.self.now c.fresh-walked.result) (access_ends (lots_in [] c.args.self.now) c.args.from c.args.to c.fresh-walked.result) comes

pub returns : goal.returns
returns g c =
    let row = λ (ls : List (Lot (Unit {0}))). row_access first_tester (lots_in [] ls) c.args.from c.args.to in
    let comes = subst (λ ls. Answers (access_reply) c.access-came.result c.access-came.new.work (row ls c.fresh-walked.result)) c.keeper-keeper.ensures.value c.access-came.ensures in
    record { row = row_answered (access_reply) (row c.args.self.now) (access_behind (lots_in [] c.args.self.now) c.args.from c.args.to) c.args.work.now c.fresh-walked.result c.access-came.new.work c.answered.new.work c.fresh-walked.ensures c.access-came.result comes c.answered.result c.answered.ensures.taken }
