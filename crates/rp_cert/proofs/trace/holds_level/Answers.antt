use Rattle.std.proofs.Common.{ℤ, ◌&&◌, ◌||◌, sym, ap, ◌∙◌}
use mir.Syntax.{w32, w64}
use Rattle.rp_algebra.specs.Integer.{is_zero, is_positive}
use Rattle.rp_algebra.proofs.Machine.{read_is}
use Rattle.rp_geometry.specs.Geometry.{owns_boundary}
use Rattle.rp_geometry.specs.sections.Trace.{offset_at}
use Rattle.rp_slice.proofs.Small.{height_within}
use Rattle.rp_cert.proofs.Traced.{level_by_offset}
use Rattle.rp_cert.proofs.trace.holds_level.Goals as goal

pub returns : goal.returns
returns c =
    let h = c.args.half.now in
    let z = read_is w32 (height_within c.args.z c.requires) tt in
    let value = read_is w64 c.offset_at.ensures.small tt ∙ c.offset_at.ensures.value ∙ ap (λ (v : ℤ). offset_at v h) z in
    c.holds_by.ensures ∙ ap (λ (v : ℤ). is_positive v || (is_zero v && owns_boundary h)) value ∙ sym (level_by_offset c.args.z h)
