use Rattle.std.proofs.Common.{ℤ, ◌&&◌, ◌||◌, take, sym, ap, ◌∙◌}
use mir.Syntax.{w32}
use Rattle.std.proofs.lemmas.List.Folds.{list_any-append}
use Rattle.rp_algebra.proofs.Machine.{read_is}
use Rattle.rp_geometry.specs.Geometry.{HalfSpace}
use Rattle.rp_geometry.specs.sections.Trace.{has_trace, trace_eq, trace_at, cube_sides}
use Rattle.rp_geometry.specs.sections.Ring.{is_trace_of}
use Rattle.rp_slice.proofs.Small.{height_within}
use Rattle.rp_cert.proofs.ring.is_trace_with_sides.Goals as goal

pub returns-else-is_trace_of : goal.returns-else-is_trace_of
returns-else-is_trace_of c =
    let z = read_is w32 (height_within c.args.z c.requires) tt in
    let edge = c.args.edge.now in
    let none = sym c.if-is_trace_of.false ∙ c.is_trace_of.ensures ∙ ap (λ (v : ℤ). is_trace_of v c.args.cell.now edge) z in
    c.is_trace_of-else-is_trace_of.ensures
    ∙ (λ i. is_trace_of (z i) (take 4 (c.cube.ensures i)) edge)
    ∙ (λ i. none i || is_trace_of c.args.z cube_sides edge)
    ∙ sym (list_any-append (λ (h : HalfSpace). has_trace h && trace_eq (trace_at c.args.z h) edge) c.args.cell.now cube_sides)
