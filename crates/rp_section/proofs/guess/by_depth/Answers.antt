use Rattle.std.proofs.Common.{rules}
use Rattle.std.specs.Int.RustNames.{FitsSigned}
use mir.Syntax.{w64}
use Rattle.rp_algebra.proofs.Machine.{code, fits_by}
use Rattle.rp_section.proofs.Offsets.{offset_within}
use Rattle.rp_section.proofs.guess.by_depth.Goals as goal

pub overflow_mul-first : goal.overflow_mul-first
overflow_mul-first c =
    let f : FitsSigned w64 c.s.inside.d = search rules in
    let d = offset_within c.s.inside.d f in
    fits_by (search code depth 30 fits 100000) tt

pub overflow_mul-second : goal.overflow_mul-second
overflow_mul-second c =
    let f : FitsSigned w64 c.t.inside.d = search rules in
    let d = offset_within c.t.inside.d f in
    fits_by (search code depth 30 fits 100000) tt
