use Rattle.std.proofs.Common.{◌&&◌, not, sym, subst, ◌∙◌}
use Rattle.rp_geometry.specs.searches.Vertex.{meeting_weight}
use Rattle.rp_elim.specs.Sides.{ThreeHalfSpaces, has_sign, signed, contradicts, four_offsets, CannotRefute}
use Rattle.rp_elim.proofs.Unfit.{unfit_signs, unfit_offsets}
use Rattle.rp_elim.proofs.triple.Triple.may_refute_beside.Goals as goal

pub returns-then-have_one_sign : goal.returns-then-have_one_sign
returns-then-have_one_sign c n =
    let t = c.self.inside in
    let m = c.self.invariant in
    let strict = c.args.strict in
    let h = c.args.h.now in
    let e = t.ef.first in
    let f = t.ef.second in
    let g = t.eg.second in
    let same = c.contradict.ensures
    ∙ (λ i. contradicts strict (signed t.positive (four_offsets (meeting_weight (m.fg i).first (m.fg i).second h) (meeting_weight (m.eg i).first (m.eg i).second h) (meeting_weight e f h) (meeting_weight e f g) e f g h))) in
    subst (λ (v : ThreeHalfSpaces). CannotRefute strict v.first v.second v.third h) c.self.view_is
    (unfit_offsets strict t.positive e f g h m.last (sym same ∙ n))

pub returns-else-have_one_sign : goal.returns-else-have_one_sign
returns-else-have_one_sign c n =
    let t = c.self.inside in
    let m = c.self.invariant in
    let strict = c.args.strict in
    let h = c.args.h.now in
    let e = t.ef.first in
    let f = t.ef.second in
    let g = t.eg.second in
    let same = c.have_one_sign.ensures
    ∙ (λ i. has_sign (not t.positive) (meeting_weight (m.eg i).first (m.eg i).second h) && has_sign t.positive (meeting_weight (m.fg i).first (m.fg i).second h)) in
    subst (λ (v : ThreeHalfSpaces). CannotRefute strict v.first v.second v.third h) c.self.view_is
    (unfit_signs strict t.positive e f g h m.last (sym same ∙ n))
