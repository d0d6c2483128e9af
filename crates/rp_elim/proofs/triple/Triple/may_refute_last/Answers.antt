use Rattle.std.proofs.Common.{sym, subst, ◌∙◌}
use Rattle.rp_geometry.specs.searches.Vertex.{meeting_weight}
use Rattle.rp_elim.specs.Sides.{ThreeHalfSpaces, has_sign, signed, contradicts, four_offsets, CannotRefute}
use Rattle.rp_elim.proofs.Unfit.{unfit_first, unfit_offsets}
use Rattle.rp_elim.proofs.triple.Triple.may_refute_last.Goals as goal

pub returns-then-has_sign : goal.returns-then-has_sign
returns-then-has_sign c n =
    let t = c.self.inside in
    let m = c.self.invariant in
    let strict = c.args.strict in
    let h = c.args.h.now in
    let e = t.ef.first in
    let f = t.ef.second in
    let g = t.eg.second in
    let same = c.contradict.ensures
    ∙ (λ i. contradicts strict (signed t.positive (four_offsets (meeting_weight (m.fg i).first (m.fg i).second h) (meeting_weight (m.eg i).first (m.eg i).second h) (meeting_weight e f h) (meeting_weight e f g) e f g h))) in
    subst (λ (v : ThreeHalfSpaces). CannotRefute strict v.first v.second v.third h) c.self.view_is
    (unfit_offsets strict t.positive e f g h m.last (sym same ∙ n))

pub returns-else-has_sign : goal.returns-else-has_sign
returns-else-has_sign c n =
    let t = c.self.inside in
    let m = c.self.invariant in
    let strict = c.args.strict in
    let h = c.args.h.now in
    let same = c.has_sign.ensures ∙ (λ i. has_sign t.positive (meeting_weight (m.fg i).first (m.fg i).second h)) in
    subst (λ (v : ThreeHalfSpaces). CannotRefute strict v.first v.second v.third h) c.self.view_is
    (unfit_first strict t.positive t.ef.first t.ef.second t.eg.second h m.last (sym same ∙ n))
