use Rattle.std.proofs.Common.{◌≡◌, ℕ, ◌+◌, List, ◌++◌, OnOk, ap, ◌∙◌, subst}
use Rattle.rp_reports.specs.Machine.{after_line, step_answer}
use Rattle.rp_scripts.specs.Made.{made_line}
use Rattle.rp_scripts.specs.Trial.{counted}
use Rattle.rp_runner.proofs.summary.count_made.Goals as goal

pub returns-clause-counted : goal.returns-clause-counted
returns-clause-counted g c =
    let line = made_line c.args.line in
    let text : c.deref.result.now ≡ line = c.deref.ensures.value ∙ c.in_ok-write.ensures ∙ ap (λ (xs : List ℕ). xs ++ line) c.clear.ensures.items in
    subst (λ (xs : List ℕ). OnOk c.count_line.result (c.count_line.new.counts ≡ counted c.args.counts.now (step_answer c.args.machine.now.version c.args.machine.now.state (c.args.counts.now.lines + 1) xs)))
    text c.count_line.ensures.counted

pub returns-clause-state : goal.returns-clause-state
returns-clause-state g c =
    let line = made_line c.args.line in
    let text : c.deref.result.now ≡ line = c.deref.ensures.value ∙ c.in_ok-write.ensures ∙ ap (λ (xs : List ℕ). xs ++ line) c.clear.ensures.items in
    subst (λ (xs : List ℕ). OnOk c.count_line.result (c.count_line.new.machine ≡ after_line c.args.machine.now (c.args.counts.now.lines + 1) xs)) text c.count_line.ensures.state
