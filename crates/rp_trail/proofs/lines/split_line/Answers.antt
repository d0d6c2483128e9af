use Rattle.std.proofs.Common.{ℕ, ◌+◌, ◌∷◌, List, take, ap, sym, ◌∙◌}
use Rattle.std.proofs.lemmas.List.{take_rest}
use Rattle.rp_algebra.proofs.Lists.{nil_from_test, nonempty_from_test}
use Rattle.rp_reports.specs.Output.{report_lines}
use Rattle.rp_trail.proofs.Cut.{lines-nil, lines-at_end, lines-no_end}
use Rattle.rp_trail.proofs.lines.split_line.Goals as goal

pub returns-then-is_empty-clause-lines : goal.returns-then-is_empty-clause-lines
returns-then-is_empty-clause-lines c =
    sym (ap report_lines (nil_from_test c.args.text.now (sym c.is_empty.ensures ∙ c.if-is_empty.true)) ∙ lines-nil)

pub returns-in-Some-clause-lines : goal.returns-in-Some-clause-lines
returns-in-Some-clause-lines c =
    let behind = take_rest c.args.text.now (c.in-Some.end + 1) in
    sym (lines-at_end c.args.text.now c.in-Some.end (sym c.line_end.ensures ∙ c.in-Some.is)
    ∙ ap (λ (rest : List ℕ). take c.in-Some.end c.args.text.now ∷ report_lines rest) (sym behind))

pub returns-in-None-clause-lines : goal.returns-in-None-clause-lines
returns-in-None-clause-lines c =
    sym (lines-no_end c.args.text.now
    (nonempty_from_test c.args.text.now (sym c.is_empty.ensures ∙ c.if-is_empty.false))
    (sym c.line_end.ensures ∙ c.in-None.is)
    ∙ ap (λ rest. c.args.text.now ∷ rest) (sym lines-nil))
