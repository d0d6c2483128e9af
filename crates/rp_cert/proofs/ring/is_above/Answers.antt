use Rattle.std.proofs.Common.{◌||◌, not, ap, sym, ◌∙◌, rules}
use Rattle.std.specs.Int.RustNames.{FitsSigned}
use Rattle.std.proofs.lemmas.Int.{to_z-of_z}
use mir.Syntax.{w128}
use Rattle.rp_algebra.specs.Integer.{is_nonnegative}
use Rattle.rp_geometry.specs.sections.Trace.{trace_value, trace_at}
use Rattle.rp_cert.proofs.Traced.{side_sign}
use Rattle.rp_cert.proofs.ring.is_above.Goals as goal

pub returns-else-not-has_trace : goal.returns-else-not-has_trace
returns-else-not-has_trace c =
    let fits : FitsSigned w128 c.value_at.result = search rules in
    let has = sym c.if-not-has_trace.false ∙ c.has_trace.ensures in
    ap is_nonnegative (to_z-of_z w128 c.value_at.result fits ∙ c.value_at.ensures)
    ∙ side_sign c.args.z c.args.half.now c.args.p.now (sym has) c.requires.there
    ∙ (λ i. not (has i) || is_nonnegative (trace_value (trace_at c.args.z c.args.half.now) c.args.p.now))
