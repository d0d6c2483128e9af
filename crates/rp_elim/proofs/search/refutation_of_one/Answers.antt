use Rattle.std.proofs.Common.{sym, ◌∙◌}
use Rattle.rp_algebra.specs.Integer.{gcd, gcd_of}
use Rattle.rp_geometry.specs.searches.Elimination.{reduced_terms, refutation_of_one}
use Rattle.rp_elim.proofs.Dependent.{one_with_normal}
use Rattle.rp_elim.proofs.search.refutation_of_one.Goals as goal

pub returns-then-not-is_without_normal : goal.returns-then-not-is_without_normal
returns-then-not-is_without_normal c =
    sym (one_with_normal c.args.strict c.args.h.now (sym c.is_without_normal.ensures ∙ c.if-not-is_without_normal.true))

pub returns : goal.returns
unfolding refutation_of_one reduced_terms gcd gcd_of
returns c = c.positive_refutation.ensures
