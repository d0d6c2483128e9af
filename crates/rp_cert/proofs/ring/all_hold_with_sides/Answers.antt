use Rattle.std.proofs.Common.{ℤ, ◌&&◌, ◌||◌, not, take, sym, ap, ◌∙◌}
use Rattle.std.proofs.lemmas.List.Folds.{list_all-append}
use Rattle.rp_algebra.specs.Integer.{is_nonnegative}
use Rattle.rp_geometry.specs.Geometry.{HalfSpace}
use Rattle.rp_geometry.specs.sections.Trace.{has_trace, trace_at, trace_value, cube_sides}
use Rattle.rp_geometry.specs.sections.Ring.{all_traces_hold}
use Rattle.rp_cert.proofs.Traced.{read_height, passed_height, passed_there}
use Rattle.rp_cert.proofs.ring.all_hold_with_sides.Goals as goal

pub all_traces_hold-requires-clause-height : goal.all_traces_hold-requires-clause-height
all_traces_hold-requires-clause-height c = passed_height c.args.z c.requires.height

pub all_traces_hold-requires-clause-there : goal.all_traces_hold-requires-clause-there
all_traces_hold-requires-clause-there c = passed_there c.args.z c.args.p.now c.requires.height c.requires.there

pub all_traces_hold-requires-then-all_traces_hold-clause-height : goal.all_traces_hold-requires-then-all_traces_hold-clause-height
all_traces_hold-requires-then-all_traces_hold-clause-height c = passed_height c.args.z c.requires.height

pub all_traces_hold-requires-then-all_traces_hold-clause-there : goal.all_traces_hold-requires-then-all_traces_hold-clause-there
all_traces_hold-requires-then-all_traces_hold-clause-there c = passed_there c.args.z c.args.p.now c.requires.height c.requires.there

pub returns-then-all_traces_hold : goal.returns-then-all_traces_hold
returns-then-all_traces_hold c =
    let z = read_height c.args.z c.requires.height in
    let p = c.args.p.now in
    let all = sym c.if-all_traces_hold.true ∙ c.all_traces_hold.ensures ∙ ap (λ (v : ℤ). all_traces_hold v c.args.cell.now p) z in
    c.all_traces_hold-then-all_traces_hold.ensures
    ∙ (λ i. all_traces_hold (z i) (take 4 (c.cube.ensures i)) p)
    ∙ (λ i. all i && all_traces_hold c.args.z cube_sides p)
    ∙ sym (list_all-append (λ (h : HalfSpace). not (has_trace h) || is_nonnegative (trace_value (trace_at c.args.z h) p)) c.args.cell.now cube_sides)

pub returns-else-all_traces_hold : goal.returns-else-all_traces_hold
returns-else-all_traces_hold c =
    let z = read_height c.args.z c.requires.height in
    let p = c.args.p.now in
    let none = sym c.if-all_traces_hold.false ∙ c.all_traces_hold.ensures ∙ ap (λ (v : ℤ). all_traces_hold v c.args.cell.now p) z in
    c.if-all_traces_hold.false
    ∙ (λ i. none i && all_traces_hold c.args.z cube_sides p)
    ∙ sym (list_all-append (λ (h : HalfSpace). not (has_trace h) || is_nonnegative (trace_value (trace_at c.args.z h) p)) c.args.cell.now cube_sides)
