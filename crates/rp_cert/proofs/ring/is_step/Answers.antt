use Rattle.std.proofs.Common.{ℤ, ◌-ℤ◌, ◌*ℤ◌, ◌&&◌, ap, sym, ◌∙◌}
use Rattle.rp_algebra.specs.Integer.{is_zero}
use Rattle.rp_geometry.specs.sections.Trace.{is_at_height, with_sides}
use Rattle.rp_geometry.specs.sections.Ring.{is_step, is_trace_of, is_lowest_point, all_traces_hold}
use Rattle.rp_cert.proofs.Traced.{equal_by_difference, kept_lowest, passed_height, read_height, same_by_difference}
use Rattle.rp_cert.proofs.ring.is_step.Goals as goal

pub is_at_height-requires : goal.is_at_height-requires
is_at_height-requires c = passed_height c.args.z c.requires

pub is_trace_with_sides-requires : goal.is_trace_with_sides-requires
is_trace_with_sides-requires c = passed_height c.args.z c.requires

pub returns-then-not-is_trace_with_sides : goal.returns-then-not-is_trace_with_sides
returns-then-not-is_trace_with_sides c =
    let z = read_height c.args.z c.requires in
    let list = with_sides c.args.cell.now in
    let s = c.step.inside in
    let trace = sym c.if-not-is_trace_with_sides.true ∙ c.is_trace_with_sides.ensures ∙ ap (λ (v : ℤ). is_trace_of v list s.edge) z in
    (λ i. trace i && is_lowest_point s.end && is_at_height c.args.z s.end && all_traces_hold c.args.z list s.end) ∙ ap (is_step c.args.z list) c.step.view_is

pub all_hold_with_sides-requires-clause-height : goal.all_hold_with_sides-requires-clause-height
all_hold_with_sides-requires-clause-height c = passed_height c.args.z c.requires

pub all_hold_with_sides-requires-clause-there : goal.all_hold_with_sides-requires-clause-there
all_hold_with_sides-requires-clause-there c = same_by_difference _ _ (sym c.is_at_height.ensures ∙ c.if-not-is_at_height.false)

pub returns : goal.returns
returns c =
    let z = read_height c.args.z c.requires in
    let list = with_sides c.args.cell.now in
    let s = c.step.inside in
    let lowest = sym (kept_lowest s.end c.keep_lowest.ensures) in
    let height = sym c.if-not-is_at_height.false ∙ c.is_at_height.ensures ∙ ap (λ (v : ℤ). is_zero (s.end.z -ℤ v *ℤ s.end.w)) z ∙ equal_by_difference s.end.z (c.args.z *ℤ s.end.w) in
    let trace = sym c.if-not-is_trace_with_sides.false ∙ c.is_trace_with_sides.ensures ∙ ap (λ (v : ℤ). is_trace_of v list s.edge) z in
    c.all_hold_with_sides.ensures
    ∙ (λ i. trace i && lowest i && height i && all_traces_hold (z i) list s.end)
    ∙ ap (is_step c.args.z list) c.step.view_is
