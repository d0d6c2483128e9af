use Rattle.std.proofs.Common.{◌+ℤ◌, ◌*ℤ◌, sym, ◌∙◌}
use mir.Syntax.{w32}
use Rattle.rp_algebra.proofs.Machine.{code, fits_by, is_by, read_is}
use Rattle.rp_geometry.specs.sections.Trace.{offset_at}
use Rattle.rp_slice.proofs.Small.{height_within}
use Rattle.rp_slice.proofs.Traces.{side_at_height}
use Rattle.rp_cert.proofs.ring.value_at.Goals as goal

pub overflow_mul-result : goal.overflow_mul-result
overflow_mul-result c = fits_by (search code depth 30 fits 100000) tt

pub overflow_mul-result-2 : goal.overflow_mul-result-2
overflow_mul-result-2 c = fits_by (search code depth 30 fits 100000) tt

pub overflow_add-result : goal.overflow_add-result
overflow_add-result c = fits_by (search code depth 30 fits 100000) tt

pub overflow_mul-result-3 : goal.overflow_mul-result-3
overflow_mul-result-3 c = fits_by (search code depth 30 fits 100000) tt

pub overflow_add-result-2 : goal.overflow_add-result-2
overflow_add-result-2 c = fits_by (search code depth 30 fits 100000) tt

pub returns : goal.returns
returns c =
    let z = read_is w32 (height_within c.args.z c.requires.height) tt in
    is_by (search code depth 30 fits 100000) tt
    ∙ (λ i.
    (c.numbers-a.ensures.numbers i).a *ℤ (c.numbers-x.ensures.numbers i).x +ℤ (c.numbers-a.ensures.numbers i).b *ℤ (c.numbers-x.ensures.numbers i).y
    +ℤ c.offset_at.ensures.value i *ℤ (c.numbers-x.ensures.numbers i).w)
    ∙ (λ i. c.args.half.now.a *ℤ c.args.p.now.x +ℤ c.args.half.now.b *ℤ c.args.p.now.y +ℤ offset_at (z i) c.args.half.now *ℤ c.args.p.now.w)
    ∙ sym (side_at_height c.args.z c.args.half.now c.args.p.now c.requires.there)
