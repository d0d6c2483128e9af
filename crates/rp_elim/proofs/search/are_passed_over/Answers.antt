use Rattle.std.proofs.Common.{sym, ◌∙◌}
use Rattle.std.proofs.lemmas.Bool.{not-true}
use Rattle.rp_elim.proofs.Opposed.{two_not_opposed}
use Rattle.rp_elim.proofs.search.are_passed_over.Goals as goal

pub returns : goal.returns
returns c is strict = two_not_opposed strict c.args.g.now c.args.h.now (sym c.may_cancel.ensures ∙ not-true c.may_cancel.result is)
