use Rattle.std.proofs.Common.{◌≡◌, List, ℕ, ◌++◌, ap, ◌∙◌, subst}
use Rattle.rp_io.specs.Bytes.{Appends, AppendsPrefix}
use Rattle.rp_reports.specs.Made.{trial_lines}
use Rattle.rp_reports.specs.Text.{text_of_lines}
use Rattle.rp_scripts.specs.Trial.{summary_lines}
use Rattle.rp_scripts.proofs.SinkLemmas.{AppendsPrefix-nothing, OnErr-holds}
use Rattle.rp_scripts.proofs.TrialLemmas.{summary-text}
use Rattle.rp_runner.proofs.trial.trial.Goals as goal

pub returns-clause-summary : goal.returns-clause-summary
returns-clause-summary g c =
    let s = c.in_ok-summary.summary in
    let written : c.write_summary.new.text.items ≡ text_of_lines (summary_lines s) =
    c.in_ok-write_summary.ensures ∙ ap (λ (xs : List ℕ). xs ++ text_of_lines (summary_lines s)) c.new-text.ensures.items in
    let text : c.deref.result.now ≡ text_of_lines (trial_lines c.args.building.storeys c.args.building.seed) =
    c.deref.ensures.value ∙ summary-text c.args.building.storeys c.args.building.seed s c.write_summary.new.text.items c.in_ok-summary.ensures written in
    subst (Appends (g.K.Sink.said c.args.sink.now) (g.K.Sink.said c.put_lines.new.sink)) text c.in_ok-put_lines.ensures.ok

pub returns-in_err-summary-clause-front : goal.returns-in_err-summary-clause-front
returns-in_err-summary-clause-front g c = OnErr-holds c.from_residual.result (AppendsPrefix-nothing (g.K.Sink.said c.args.sink.now) (text_of_lines (trial_lines c.args.building.storeys c.args.building.seed)))

pub returns-in_err-write_summary-clause-front : goal.returns-in_err-write_summary-clause-front
returns-in_err-write_summary-clause-front g c = OnErr-holds c.from_residual-in_err-write_summary.result (AppendsPrefix-nothing (g.K.Sink.said c.args.sink.now) (text_of_lines (trial_lines c.args.building.storeys c.args.building.seed)))

pub returns-in_err-put_lines-clause-front : goal.returns-in_err-put_lines-clause-front
returns-in_err-put_lines-clause-front g c =
    let s = c.in_ok-summary.summary in
    let written : c.write_summary.new.text.items ≡ text_of_lines (summary_lines s) =
    c.in_ok-write_summary.ensures ∙ ap (λ (xs : List ℕ). xs ++ text_of_lines (summary_lines s)) c.new-text.ensures.items in
    let text : c.deref.result.now ≡ text_of_lines (trial_lines c.args.building.storeys c.args.building.seed) =
    c.deref.ensures.value ∙ summary-text c.args.building.storeys c.args.building.seed s c.write_summary.new.text.items c.in_ok-summary.ensures written in
    OnErr-holds c.from_residual-in_err-put_lines.result
    (subst (AppendsPrefix (g.K.Sink.said c.args.sink.now) (g.K.Sink.said c.put_lines.new.sink)) text c.in_err-put_lines.ensures.front)
