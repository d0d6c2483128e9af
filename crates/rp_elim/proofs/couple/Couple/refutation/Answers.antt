use Rattle.std.proofs.Common.{◌&&◌, not, List, sym, ap, of_z, ◌∙◌}
use mir.Syntax.{w128}
use Rattle.rp_geometry.specs.searches.Certificate.{Multiple}
use Rattle.rp_geometry.specs.searches.Elimination.{minors_on_axes, normal_terms, terms_if, refutation_of_three}
use Rattle.rp_elim.specs.Axes.{along, minor_on}
use Rattle.rp_elim.specs.Sides.{has_sign}
use Rattle.rp_elim.proofs.Three.{mixed_three, refutation_on_axes}
use Rattle.rp_elim.proofs.Dependent.{three_independent}
use Rattle.rp_elim.proofs.couple.Couple.refutation.Goals as goal

pub returns-then-weight-ne0 : goal.returns-then-weight-ne0
returns-then-weight-ne0 c =
    let p = c.self.inside.cross in
    sym (three_independent c.args.strict p.first p.second c.args.h.now (λ z. c.if-weight-ne0.true (λ i. of_z w128 ((c.weight.ensures.value ∙ z) i))))
    ∙ (λ i. refutation_of_three c.args.strict (c.self.view_is i).first (c.self.view_is i).second c.args.h.now)

pub returns-then-not-have_one_sign : goal.returns-then-not-have_one_sign
returns-then-not-have_one_sign c =
    let p = c.self.inside in
    let m = c.self.invariant in
    let h = c.args.h.now in
    let strict = c.args.strict in
    let same = c.have_one_sign.ensures
    ∙ (λ i. has_sign p.positive (minor_on (m.axes i) (c.second-g.ensures i) h) && has_sign (not p.positive) (minor_on (m.axes i) (c.first-f.ensures i) h)) in
    sym (mixed_three strict p.positive p.cross.first p.cross.second h m.last (sym same ∙ c.if-not-have_one_sign.true))
    ∙ (λ i. refutation_of_three strict (c.self.view_is i).first (c.self.view_is i).second h)

pub returns : goal.returns
returns c =
    let p = c.self.inside in
    let m = c.self.invariant in
    let h = c.args.h.now in
    let strict = c.args.strict in
    c.refutation.ensures
    ∙ ap (λ (ts : List Multiple). terms_if strict (normal_terms ts)) c.minors_on_axes-minors.ensures.value
    ∙ (λ i. terms_if strict (normal_terms (minors_on_axes (c.first-f.ensures i) (c.second-g.ensures i) h (along (m.axes i).0) (along (m.axes i).1))))
    ∙ sym (refutation_on_axes strict p.cross.first p.cross.second h)
    ∙ (λ i. refutation_of_three strict (c.self.view_is i).first (c.self.view_is i).second h)
