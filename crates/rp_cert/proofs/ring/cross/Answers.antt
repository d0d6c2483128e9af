use Rattle.std.proofs.Common.{◌-ℤ◌, ◌*ℤ◌, ◌∙◌, rules}
use Rattle.std.specs.Int.RustNames.{FitsSigned}
use mir.Syntax.{w32}
use Rattle.rp_algebra.proofs.Machine.{code, fits_by, is_by}
use Rattle.rp_geometry.specs.sections.Ring.{cross}
use Rattle.rp_cert.proofs.Traced.{short_is, short_within}
use Rattle.rp_cert.proofs.ring.cross.Goals as goal

pub overflow_sub-result : goal.overflow_sub-result
overflow_sub-result c =
    let fa : FitsSigned w32 c.s.inside.a = search rules in
    let ra = short_is c.s.inside.a fa in
    let wa = short_within c.s.inside.a fa in
    let fb : FitsSigned w32 c.s.inside.b = search rules in
    let rb = short_is c.s.inside.b fb in
    let wb = short_within c.s.inside.b fb in
    let fc : FitsSigned w32 c.t.inside.a = search rules in
    let rc = short_is c.t.inside.a fc in
    let wc = short_within c.t.inside.a fc in
    let fd : FitsSigned w32 c.t.inside.b = search rules in
    let rd = short_is c.t.inside.b fd in
    let wd = short_within c.t.inside.b fd in
    fits_by (search code depth 30 fits 100000) tt

pub returns : goal.returns
returns c =
    let fa : FitsSigned w32 c.s.inside.a = search rules in
    let ra = short_is c.s.inside.a fa in
    let wa = short_within c.s.inside.a fa in
    let fb : FitsSigned w32 c.s.inside.b = search rules in
    let rb = short_is c.s.inside.b fb in
    let wb = short_within c.s.inside.b fb in
    let fc : FitsSigned w32 c.t.inside.a = search rules in
    let rc = short_is c.t.inside.a fc in
    let wc = short_within c.t.inside.a fc in
    let fd : FitsSigned w32 c.t.inside.b = search rules in
    let rd = short_is c.t.inside.b fd in
    let wd = short_within c.t.inside.b fd in
    is_by (search code depth 30 fits 100000) tt ∙ (λ i. ra i *ℤ rd i -ℤ rc i *ℤ rb i) ∙ (λ i. cross (c.s.view_is i) (c.t.view_is i))
