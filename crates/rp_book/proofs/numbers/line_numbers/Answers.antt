use Rattle.std.proofs.Common.{◌+◌, ap, sym, ◌∙◌}
use Rattle.rp_algebra.proofs.Lists.{nonempty_from_test}
use Rattle.rp_book.specs.Lines.{last_number}
use Rattle.rp_book.proofs.ScriptLemmas.{last_number-append}
use Rattle.rp_book.proofs.numbers.line_numbers.Goals as goal

pub returns-clause-last : goal.returns-clause-last
returns-clause-last c =
    let some = nonempty_from_test c.args.script.now (sym c.is_empty.ensures ∙ c.if-is_empty.false) in
    ap (λ n. n + c.count_lines-2.result) c.requires.before ∙ ap (λ n. last_number c.args.script.now + n) c.count_lines-2.ensures.count
    ∙ sym (last_number-append c.args.script.now c.args.lines.now (some, c.requires.end some))
