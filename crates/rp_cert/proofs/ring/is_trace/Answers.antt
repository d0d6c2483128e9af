use Rattle.std.proofs.Common.{ℤ, ◌&&◌, sym, ap, ◌∙◌}
use mir.Syntax.{w32}
use Rattle.rp_algebra.proofs.Machine.{read_is}
use Rattle.rp_geometry.specs.sections.Trace.{trace_eq, trace_at}
use Rattle.rp_slice.proofs.Small.{height_within}
use Rattle.rp_cert.specs.Section.{trace_if}
use Rattle.rp_cert.proofs.Traced.{given_trace, other_direction}
use Rattle.rp_cert.proofs.ring.is_trace.Goals as goal

pub returns-in-Some : goal.returns-in-Some
returns-in-Some c =
    let z = read_is w32 (height_within c.args.z c.requires) tt in
    let h = c.args.half.now in
    let edge = c.args.edge.now in
    let g = given_trace c.args.z h c.in-Some.other (sym (ap (λ (v : ℤ). trace_if v h) z) ∙ sym c.trace_at.ensures.value ∙ c.in-Some.is) in
    c.eq.ensures ∙ (λ i. trace_eq (sym g.1 i) edge) ∙ (λ i. sym g.0 i && trace_eq (trace_at c.args.z h) edge)

pub returns-then-not-is_along : goal.returns-then-not-is_along
returns-then-not-is_along c = sym (other_direction c.args.z c.args.half.now c.args.edge.now (sym c.is_along.ensures ∙ c.if-not-is_along.true))
