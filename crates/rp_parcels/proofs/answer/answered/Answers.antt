use Rattle.std.proofs.Common.{Ok, sym, ap, ◌∙◌}
use Rattle.rp_parcels.proofs.Taken.{refusal_shown}
use Rattle.rp_parcels.proofs.answer.answered.Goals as goal

pub fault_of-requires : goal.fault_of-requires
fault_of-requires g c =
    refusal_shown c.args.came c.in-Err.refusal c.args.work.now c.args.walked c.take_over.new.self c.requires
    (sym c.settled.ensures ∙ c.in_ok-found.ensures.0 ∙ ap Ok c.in-Err.is, c.in_ok-found.ensures.1)
