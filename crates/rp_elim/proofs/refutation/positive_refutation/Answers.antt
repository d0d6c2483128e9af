use Rattle.std.proofs.Common.{sym, ap, ◌∙◌, Some}
use Rattle.rp_elim.proofs.Scaled.{reduced_given, reduced_none}
use Rattle.rp_elim.proofs.refutation.positive_refutation.Goals as goal

pub returns-then-not-cancel : goal.returns-then-not-cancel
returns-then-not-cancel c = sym (reduced_none c.args.strict c.args.terms.now c.requires.some c.requires.multipliers (sym c.cancel.ensures ∙ c.if-not-cancel.true))

pub returns : goal.returns
returns c = ap Some c.write_lowest.ensures ∙ sym (reduced_given c.args.strict c.args.terms.now c.requires.some c.requires.multipliers (sym c.cancel.ensures ∙ c.if-not-cancel.false))
