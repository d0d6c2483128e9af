use Rattle.std.proofs.Common.{◌≡◌, ℕ, List, [], ◌==◌, true, length, append-nil, ap, sym, ◌∙◌}
use Rattle.rp_seal_text.specs.ActText.{end_line}
use Rattle.rp_seal_text.proofs.acts.read_end.Goals as goal

pub returns-in_err-count-clause-each : goal.returns-in_err-count-clause-each
returns-in_err-count-clause-each c = λ n fits is.
    absurd (c.in_err-count.ensures.each n [] fits (is ∙ sym (append-nil (end_line n))))

pub returns-else-is_empty-clause-each : goal.returns-else-is_empty-clause-each
returns-else-is_empty-clause-each c = λ n fits is.
    let end = c.in_ok-count.ensures.each n [] fits (is ∙ sym (append-nil (end_line n))) in
    let yes : c.is_empty.result ≡ true = c.is_empty.ensures ∙ ap (λ (v : List ℕ). length v == 0) end.1 in
    absurd (cc)
