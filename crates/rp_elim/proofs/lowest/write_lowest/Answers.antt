use Rattle.std.proofs.Common.{◌<◌, ◌^◌, ℕ, map, subst, sym, ◌∙◌}
use Rattle.std.proofs.lemmas.List.{take_all}
use Rattle.rp_algebra.specs.Integer.{reduced_by}
use Rattle.rp_geometry.specs.searches.Certificate.{Multiple}
use Rattle.rp_geometry.specs.searches.Elimination.{multiple_of, reduced_terms}
use Rattle.rp_elim.proofs.Divisor.{divisor_above, divisor_below}
use Rattle.rp_elim.proofs.lowest.write_lowest.Goals as goal

pub quotient-requires : goal.quotient-requires
quotient-requires c = record {
  positive = subst (λ (n : ℕ). 0 < n) (sym c.divisor_of-divisor.ensures) (divisor_above c.args.terms.now c.requires.some c.requires.multipliers);
  small = subst (λ (n : ℕ). n < 2 ^ 127) (sym c.divisor_of-divisor.ensures) (divisor_below c.args.terms.now c.requires.some c.requires.multipliers);
}

pub returns : goal.returns
unfolding reduced_terms
returns c =
    let whole = take_all c.loop-term.term-index c.args.terms.now c.loop-term-test.false in
    c.loop-term.invariant
    ∙ (λ i. map (λ (t : Multiple). multiple_of (reduced_by (c.divisor_of-divisor.ensures i) t.factor) t.of) (whole i))
