use Rattle.std.proofs.Common.{rules, sym, ◌∙◌}
use Rattle.rp_cert.proofs.Multipliers.{multipliers_of}
use Rattle.rp_cert.proofs.Shown.{empty_shown, apart_shown}
use Rattle.rp_cert.proofs.outside.check_outside.Goals as goal

pub is_balanced-requires-clause-multipliers : goal.is_balanced-requires-clause-multipliers
is_balanced-requires-clause-multipliers c =
    multipliers_of c.args.cell.now c.args.terms.now (sym c.are_multiples_of.ensures ∙ c.if-not-are_multiples_of.false)

pub is_contradiction-requires-clause-multipliers : goal.is_contradiction-requires-clause-multipliers
is_contradiction-requires-clause-multipliers c =
    multipliers_of c.args.cell.now c.args.terms.now (sym c.are_multiples_of.ensures ∙ c.if-not-are_multiples_of.false)

pub returns-then-is_balanced-clause-value : goal.returns-then-is_balanced-clause-value
returns-then-is_balanced-clause-value c = search rules

pub returns-then-is_balanced-clause-empty : goal.returns-then-is_balanced-clause-empty
returns-then-is_balanced-clause-empty c =
    empty_shown c.args.strict c.args.cell.now c.args.terms.now c.is_contradiction.result c.keep_bounds.ensures (returns-then-is_balanced-clause-value c)

pub returns-then-is_balanced-clause-apart : goal.returns-then-is_balanced-clause-apart
returns-then-is_balanced-clause-apart c = apart_shown c.args.strict c.args.cell.now c.args.terms.now c.is_contradiction.result (returns-then-is_balanced-clause-value c)
