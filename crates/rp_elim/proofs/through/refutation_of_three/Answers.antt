use Rattle.std.proofs.Common.{sym, ◌∙◌}
use Rattle.rp_elim.proofs.Three.{dependent_two}
use Rattle.rp_elim.proofs.Opposed.{three_not_mixed}
use Rattle.rp_elim.proofs.through.refutation_of_three.Goals as goal

pub returns-then-not-may_three_cancel : goal.returns-then-not-may_three_cancel
returns-then-not-may_three_cancel c =
    sym (three_not_mixed c.args.strict c.args.f.now c.args.g.now c.args.h.now (sym c.may_three_cancel.ensures ∙ c.if-not-may_three_cancel.true))

pub returns-in-None : goal.returns-in-None
returns-in-None c = sym (dependent_two c.args.strict c.args.f.now c.args.g.now c.in-None.ensures c.args.h.now)
