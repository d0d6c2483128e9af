use Rattle.std.proofs.Common.{List, [], subst}
use Rattle.rp_semantics.specs.Walk.{first_tester}
use Rattle.rp_model.specs.states.State.{Lot}
use Rattle.rp_model.specs.commands.Audit.{row_audit}
use Rattle.rp_model.specs.commands.Reply.{reply}
use Rattle.rp_history.specs.Lots.{lots_in}
use Rattle.rp_contacts.specs.Asked.{Answers}
use Rattle.rp_parcels.proofs.Behind.{audit_behind}
use Rattle.rp_parcels.proofs.Ends.{audit_ends}
use Rattle.rp_parcels.proofs.Taken.{end_shown, row_answered}
use Rattle.rp_model.specs.commands.Verdict.{clear}
use Rattle.rp_parcels.proofs.parcels.Parcels.audit.Goals as goal

pub answered-requires : goal.answered-requires
answered-requires g c =
    let row = λ (ls : List (Lot (Unit {0}))). row_audit first_tester (lots_in [] ls) in
    let comes = subst (λ ls. Answers (λ n. reply (clear n)) c.audit-came.result c.audit-came.new.work (row ls c.fresh-walked.result)) c.keeper-keeper.ensures.value c.audit-came.ensures in
    end_shown (λ n. reply (clear n)) c.audit-came.result c.audit-came.new.work (row c.args.self.now c.fresh-walked.result) (audit_ends (lots_in [] c.args.self.now) c.fresh-walked.result) comes

pub returns : goal.returns
returns g c =
    let row = λ (ls : List (Lot (Unit {0}))). row_audit first_tester (lots_in [] ls) in
    let comes = subst (λ ls. Answers (λ n. reply (clear n)) c.audit-came.result c.audit-came.new.work (row ls c.fresh-walked.result)) c.keeper-keeper.ensures.value c.audit-came.ensures in
    record { row = row_answered (λ n. reply (clear n)) (row c.args.self.now) (audit_behind c.args.self.now c.keeper-keeper.ensures.sound) c.args.work.now c.fresh-walked.result c.audit-came.new.work c.answered.new.work c.fresh-walked.ensures c.audit-came.result comes c.answered.result c.answered.ensures.taken }
