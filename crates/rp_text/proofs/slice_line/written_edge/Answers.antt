use Rattle.std.proofs.Common.{Some, ◌∙◌, rules}
use Rattle.std.specs.Int.RustNames.{FitsSigned}
use Rattle.std.proofs.lemmas.Int.{to_z-of_z}
use mir.Syntax.{w32, w64}
use Rattle.rp_geometry.specs.sections.Trace.{trace_of}
use Rattle.rp_text.proofs.SliceLemmas.{first_missed, second_missed, third_missed, edge_kept}
use Rattle.rp_text.proofs.slice_line.written_edge.Goals as goal

pub returns-in_err-a : goal.returns-in_err-a
returns-in_err-a c = c.from_residual.ensures ∙ first_missed c.args.a c.args.b c.args.d c.ranges.a c.in_err-a.ensures

pub returns-in_err-b : goal.returns-in_err-b
returns-in_err-b c = c.from_residual-in_err-b.ensures ∙ second_missed c.args.a c.args.b c.args.d c.ranges.b c.in_err-b.ensures

pub returns-in_err-d : goal.returns-in_err-d
returns-in_err-d c = c.from_residual-in_err-d.ensures ∙ third_missed c.args.a c.args.b c.args.d c.ranges.d c.in_err-d.ensures

pub returns : goal.returns
returns c =
    let fits_a : FitsSigned w32 c.in_ok-a.a = search rules in
    let fits_b : FitsSigned w32 c.in_ok-b.b = search rules in
    let fits_d : FitsSigned w64 c.in_ok-d.d = search rules in
    (λ i. Some (trace_of (to_z-of_z w32 c.in_ok-a.a fits_a i) (to_z-of_z w32 c.in_ok-b.b fits_b i) (to_z-of_z w64 c.in_ok-d.d fits_d i)))
    ∙ edge_kept c.args.a c.args.b c.args.d c.in_ok-a.a c.in_ok-b.b c.in_ok-d.d c.ranges.a c.ranges.b c.ranges.d c.in_ok-a.ensures c.in_ok-b.ensures c.in_ok-d.ensures
