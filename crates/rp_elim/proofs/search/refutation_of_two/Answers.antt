use Rattle.std.proofs.Common.{sym, ap, ◌∙◌, List}
use Rattle.rp_geometry.specs.searches.Certificate.{Multiple}
use Rattle.rp_geometry.specs.searches.Elimination.{normal_terms, terms_if, refutation_of_two}
use Rattle.rp_elim.proofs.Dependent.{two_not_parallel}
use Rattle.rp_elim.proofs.search.refutation_of_two.Goals as goal

pub returns-then-not-are_parallel : goal.returns-then-not-are_parallel
returns-then-not-are_parallel c =
    sym (two_not_parallel c.args.strict c.args.g.now c.args.h.now (sym c.are_parallel.ensures ∙ c.if-not-are_parallel.true))

pub returns : goal.returns
unfolding refutation_of_two
returns c = c.refutation.ensures ∙ ap (λ (ts : List Multiple). terms_if c.args.strict (normal_terms ts)) c.minors_of_two.ensures.value
