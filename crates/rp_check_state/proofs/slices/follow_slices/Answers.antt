use Rattle.std.proofs.Common.{◌≡◌, List, length, subst}
use Rattle.std.proofs.lemmas.Result.{err_from_is_err_and}
use Rattle.std.proofs.lemmas.Int.{to_z-of_z}
use mir.Syntax.{w32}
use Rattle.rp_geometry.specs.sets.Shape.{Part}
use Rattle.rp_semantics.specs.Walk.{done}
use Rattle.rp_model.specs.commands.Verdict.{Verdict}
use Rattle.rp_reports.specs.Text.{verdict_text}
use Rattle.rp_reports.specs.Check.{follow_line}
use Rattle.rp_oracle.specs.Refines.{StopsBy, Refines}
use Rattle.rp_trail.specs.Slices.{follow_slice_lines}
use Rattle.rp_check_state.proofs.Sliced.{count_stops, count_taken}
use Rattle.rp_check_state.proofs.slices.follow_slices.Goals as goal

pub returns-in_err-follow_verdict-clause-comes : goal.returns-in_err-follow_verdict-clause-comes
returns-in_err-follow_verdict-clause-comes c =
    let p = err_from_is_err_and c.from_residual.result c.from_residual.ensures.1 in
    let t = c.args.trail.now in
    let e = c.in_err-follow_verdict.field-0.0 in
    let u = c.follow_verdict.new.trail in
    rw (p.1, p.2)
    (count_stops c.args.z c.args.form.now.items t e u
    (subst (λ (ps : List Part). StopsBy e u (follow_line (verdict_text (Verdict.sections (length ps))) t.lines t)) c.items.ensures c.in_err-follow_verdict.ensures.comes))

pub returns-clause-comes : goal.returns-clause-comes
returns-clause-comes c =
    let t = c.args.trail.now in
    let u = c.follow_verdict.new.trail in
    count_taken c.args.z c.args.form.now.items t c.slices.result u c.slices.new.trail c.in_ok-follow_verdict.ensures.takes
    (subst (λ (ps : List Part). follow_line (verdict_text (Verdict.sections (length ps))) t.lines t ≡ done tt u) c.items.ensures c.in_ok-follow_verdict.ensures.comes)
    (subst (λ z. Refines (λ _. tt) c.slices.result c.slices.new.trail (follow_slice_lines z c.args.form.now.items u)) (to_z-of_z w32 c.args.z c.ranges.z) c.slices.ensures.comes)
