use Rattle.std.proofs.Common.{sym, ap, ◌∙◌, List}
use Rattle.std.specs.List.{list_all}
use Rattle.rp_geometry.specs.searches.Certificate.{Multiple, is_multiplier}
use Rattle.rp_elim.proofs.Signs.{negated_multipliers, no_refutation}
use Rattle.rp_elim.proofs.refutation.refutation.Goals as goal

pub positive_refutation-requires-then-are_negated_multipliers-clause-multipliers :
    goal.positive_refutation-requires-then-are_negated_multipliers-clause-multipliers
positive_refutation-requires-then-are_negated_multipliers-clause-multipliers c =
    ap (λ (ts : List Multiple). list_all (λ t. is_multiplier t.factor) ts) (c.items.ensures.value ∙ c.negated.ensures) ∙ negated_multipliers c.args.terms.now
    ∙ sym c.are_negated_multipliers.ensures ∙ c.if-are_negated_multipliers.true

pub returns : goal.returns
returns c =
    sym (no_refutation c.args.strict c.args.terms.now c.requires.some c.requires.small (sym c.are_multipliers.ensures ∙ c.if-are_multipliers.false)
    (sym c.are_negated_multipliers.ensures ∙ c.if-are_negated_multipliers.false))
