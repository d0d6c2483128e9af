use Rattle.std.proofs.Common.{sym, ap, ◌∙◌, List}
use Rattle.std.specs.List.{list_all}
use mir.Syntax.{w32}
use Rattle.rp_algebra.proofs.Machine.{read_is}
use Rattle.rp_geometry.specs.searches.Certificate.{Multiple, is_multiplier}
use Rattle.rp_geometry.specs.searches.Elimination.{reduced_terms}
use Rattle.rp_geometry.specs.sections.Flat.{flat_terms_if}
use Rattle.rp_elim.proofs.Signs.{negated_multipliers}
use Rattle.rp_slice.proofs.Small.{height_within}
use Rattle.rp_section.proofs.Flats.{normal_negated, no_flat}
use Rattle.rp_section.proofs.flat.flat.Goals as goal

pub positive_flat-requires-then-are_negated_multipliers-clause-multipliers :
    goal.positive_flat-requires-then-are_negated_multipliers-clause-multipliers
positive_flat-requires-then-are_negated_multipliers-clause-multipliers c =
    ap (λ (ts : List Multiple). list_all (λ t. is_multiplier t.factor) ts) (c.items.ensures.value ∙ c.negated.ensures) ∙ negated_multipliers c.args.terms.now
    ∙ sym c.are_negated_multipliers.ensures ∙ c.if-are_negated_multipliers.true

pub returns-then-are_negated_multipliers : goal.returns-then-are_negated_multipliers
returns-then-are_negated_multipliers c =
    let z = read_is w32 (height_within c.args.z c.requires.height) tt in
    let items = c.items.ensures.value ∙ c.negated.ensures in
    c.positive_flat-then-are_negated_multipliers.ensures
    ∙ (λ i. flat_terms_if (z i) (reduced_terms (items i)))
    ∙ ap (flat_terms_if c.args.z) (sym (normal_negated c.args.terms.now (sym c.are_negated_multipliers.ensures ∙ c.if-are_negated_multipliers.true) c.requires.some))

pub returns : goal.returns
returns c =
    sym (no_flat c.args.z c.args.terms.now c.requires.some c.requires.small (sym c.are_multipliers.ensures ∙ c.if-are_multipliers.false)
    (sym c.are_negated_multipliers.ensures ∙ c.if-are_negated_multipliers.false))
