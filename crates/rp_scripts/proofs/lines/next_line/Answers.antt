use Rattle.std.proofs.Common.{ℕ, ◌+◌, ◌∷◌, List, drop, ap, sym, ◌∙◌}
use Rattle.std.proofs.lemmas.List.{take_rest}
use Rattle.rp_algebra.proofs.Lists.{nil_from_test, nonempty_from_test}
use Rattle.rp_reports.specs.Report.{script_lines}
use Rattle.rp_scripts.proofs.LineLemmas.{script_lines-nil, script_lines-at_end, script_lines-no_end}
use Rattle.rp_scripts.proofs.lines.next_line.Goals as goal

pub returns-then-is_empty-clause-end : goal.returns-then-is_empty-clause-end
returns-then-is_empty-clause-end c =
    ap script_lines (nil_from_test c.args.script.now (sym c.is_empty.ensures ∙ c.if-is_empty.true)) ∙ script_lines-nil

pub returns-in-Some-clause-next : goal.returns-in-Some-clause-next
returns-in-Some-clause-next c =
    let behind = take_rest c.args.script.now (c.in-Some.end + 1) in
    script_lines-at_end c.args.script.now c.in-Some.end (sym c.line_end.ensures ∙ c.in-Some.is)
    ∙ ap (λ (line : List ℕ). line ∷ script_lines (drop (c.in-Some.end + 1) c.args.script.now)) (sym c.strip_return.ensures)
    ∙ ap (λ (rest : List ℕ). c.strip_return.result.now ∷ script_lines rest) (sym behind)

pub returns-in-None-clause-next : goal.returns-in-None-clause-next
returns-in-None-clause-next c =
    script_lines-no_end c.args.script.now
    (nonempty_from_test c.args.script.now (sym c.is_empty.ensures ∙ c.if-is_empty.false))
    (sym c.line_end.ensures ∙ c.in-None.is)
    ∙ ap (λ rest. c.args.script.now ∷ rest) (sym script_lines-nil)
