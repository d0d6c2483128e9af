use Rattle.std.proofs.Common.{◌∙◌, ◌+ℤ◌, ◌-ℤ◌, ◌*ℤ◌}
use mir.Syntax.{w128}
use Rattle.rp_algebra.proofs.Machine.{code, fits_by, is_by, within_by, read_is}
use Rattle.rp_geometry.specs.searches.Vertex.{meeting_weight}
use Rattle.rp_elim.proofs.triple.offset.Goals as goal

pub overflow_sub-result : goal.overflow_sub-result
overflow_sub-result c = fits_by (search code depth 30 fits 100000) tt

pub overflow_add-result : goal.overflow_add-result
overflow_add-result c = fits_by (search code depth 30 fits 100000) tt

pub overflow_sub-result-2 : goal.overflow_sub-result-2
overflow_sub-result-2 c = fits_by (search code depth 30 fits 100000) tt

pub returns-clause-value : goal.returns-clause-value
returns-clause-value c =
    let ef = c.args.ef.now in
    let x = c.times_offset-x.ensures.value ∙ (λ i. (read_is w128 c.weight.ensures.small tt ∙ c.weight.ensures.value) i *ℤ (c.first.ensures i).d) in
    let y = c.times_offset-y.ensures.value ∙ (λ i. (read_is w128 c.weight-2.ensures.small tt ∙ c.weight-2.ensures.value) i *ℤ (c.second.ensures i).d) in
    let z = c.times_offset-z.ensures.value ∙ (λ i. (read_is w128 c.weight-3.ensures.small tt ∙ c.weight-3.ensures.value) i *ℤ (c.second-g.ensures i).d) in
    let last = read_is w128 c.weight-4.ensures.small tt ∙ c.weight-4.ensures.value ∙ (λ i. meeting_weight ef.first ef.second (c.second-g.ensures i)) in
    let w = c.times_offset-w.ensures.value ∙ (λ i. last i *ℤ c.args.h.now.d) in
    is_by (search code depth 30 fits 100000) tt ∙ (λ i. x i -ℤ y i +ℤ z i -ℤ w i)

pub returns-clause-small : goal.returns-clause-small
returns-clause-small c = within_by (search code depth 30 fits 100000) tt
