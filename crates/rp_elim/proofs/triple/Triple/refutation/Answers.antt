use Rattle.std.proofs.Common.{List, sym, ap, ◌∙◌}
use Rattle.rp_geometry.specs.searches.Certificate.{Multiple}
use Rattle.rp_geometry.specs.searches.Elimination.{normal_terms, terms_if, refutation_of_four}
use Rattle.rp_elim.proofs.Unfit.{k_first}
use Rattle.rp_elim.proofs.triple.Triple.refutation.Goals as goal

pub returns-then-not-may_refute : goal.returns-then-not-may_refute
returns-then-not-may_refute c =
    let t = c.args.self.now in
    sym (k_first c.args.strict t.first t.second t.third c.args.h.now (c.may_refute.ensures c.if-not-may_refute.true))

pub returns : goal.returns
unfolding refutation_of_four
returns c =
    let strict = c.args.strict in
    c.refutation.ensures
    ∙ ap (λ (ts : List Multiple). terms_if strict (normal_terms ts)) c.minors_of_crosses.ensures.value
    ∙ (λ i. refutation_of_four strict (c.self.view_is i).first (c.self.view_is i).second (c.self.view_is i).third c.args.h.now)
