use Rattle.std.proofs.Common.{sym, subst, ◌∙◌}
use Rattle.rp_elim.specs.Sides.{ThreeHalfSpaces, CannotRefute}
use Rattle.rp_elim.proofs.Unfit.{unfit_third}
use Rattle.rp_elim.proofs.triple.Triple.may_refute.Goals as goal

pub returns-else-has_sign : goal.returns-else-has_sign
returns-else-has_sign c n =
    let t = c.self.inside in
    let h = c.args.h.now in
    subst (λ (v : ThreeHalfSpaces). CannotRefute c.args.strict v.first v.second v.third h) c.self.view_is
    (unfit_third c.args.strict t.positive t.ef.first t.ef.second t.eg.second h c.self.invariant.last (sym c.has_sign.ensures ∙ n))
