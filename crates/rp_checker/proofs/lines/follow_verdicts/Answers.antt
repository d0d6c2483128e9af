use Rattle.std.proofs.Common.{◌<◌, ◌≤◌, ◌++◌, List, ℕ, length, ap, ◌∙◌, arith}
use Rattle.std.proofs.lemmas.Result.{err_from_is_err_and}
use Rattle.rp_reports.specs.Text.{verdict_text}
use Rattle.rp_answer.specs.Views.{verdict_of}
use Rattle.rp_checker.proofs.Ahead.{verdict_taken, verdict_halts, verdicts_end}
use Rattle.rp_checker.proofs.lines.follow_verdicts.Goals as goal

pub loop-verdict-preserved : goal.loop-verdict-preserved
loop-verdict-preserved c =
    let here : c.loop-verdict.verdict-index < length c.args.verdicts.now = omega arith in
    let v = c.verdict-item.result in
    let want = c.deref.ensures.value ∙ c.in_ok-write_verdict.ensures ∙ ap (λ (text : List ℕ). text ++ verdict_text (verdict_of v)) c.clear.ensures.items in
    verdict_taken c.args.verdicts.now c.loop-verdict.verdict-index v here c.verdict-item.is c.loop-verdict.invariant c.deref.result.now want c.in_ok-follow_line.ensures

pub returns-in_err-follow_line : goal.returns-in_err-follow_line
returns-in_err-follow_line c =
    let p = err_from_is_err_and c.from_residual-in_err-follow_line.result c.from_residual-in_err-follow_line.ensures.1 in
    let here : c.loop-verdict.verdict-index < length c.args.verdicts.now = omega arith in
    let v = c.verdict-item.result in
    let want = c.deref.ensures.value ∙ c.in_ok-write_verdict.ensures ∙ ap (λ (text : List ℕ). text ++ verdict_text (verdict_of v)) c.clear.ensures.items in
    rw (p.1, p.2)
    (verdict_halts c.args.verdicts.now c.loop-verdict.verdict-index v here c.verdict-item.is c.loop-verdict.invariant c.deref.result.now want c.in_err-follow_line.field-0.0 c.in_err-follow_line.ensures)

pub returns : goal.returns
returns c =
    let past : length c.args.verdicts.now ≤ c.loop-verdict.verdict-index = omega arith in
    verdicts_end c.args.verdicts.now c.loop-verdict.verdict-index past c.loop-verdict.invariant
