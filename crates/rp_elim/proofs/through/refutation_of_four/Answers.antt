use Rattle.std.proofs.Common.{ap, ◌∙◌, List}
use Rattle.rp_geometry.specs.searches.Certificate.{Multiple}
use Rattle.rp_geometry.specs.searches.Elimination.{normal_terms, terms_if, refutation_of_four}
use Rattle.rp_elim.proofs.through.refutation_of_four.Goals as goal

pub returns : goal.returns
unfolding refutation_of_four
returns c = c.refutation.ensures ∙ ap (λ (ts : List Multiple). terms_if c.args.strict (normal_terms ts)) c.minors_of_four.ensures.value
