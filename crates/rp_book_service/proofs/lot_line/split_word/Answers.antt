use Rattle.std.proofs.Common.{ℕ, ◌+◌, take, drop, ap, sym, ◌∙◌, arith}
use Rattle.std.proofs.lemmas.List.{drop_all, take_all, take_rest}
use Rattle.rp_language.proofs.Places.{all_fail-at_none, position_or_len-at_some}
use Rattle.rp_book_service.specs.Children.{is_space}
use Rattle.rp_book_service.proofs.lot_line.split_word.Goals as goal

pub returns-in-Some-clause-word : goal.returns-in-Some-clause-word
returns-in-Some-clause-word c =
    let text = c.args.text.now in
    ap (λ (n : ℕ). take n text) (sym (position_or_len-at_some is_space text c.in-Some.end (sym c.space_in.ensures ∙ c.in-Some.is)).1)

pub returns-in-Some-clause-rest : goal.returns-in-Some-clause-rest
returns-in-Some-clause-rest c =
    let text = c.args.text.now in
    take_rest text (c.in-Some.end + 1) ∙ ap (λ (n : ℕ). drop (n + 1) text) (sym (position_or_len-at_some is_space text c.in-Some.end (sym c.space_in.ensures ∙ c.in-Some.is)).1)

pub returns-in-None-clause-word : goal.returns-in-None-clause-word
returns-in-None-clause-word c =
    let text = c.args.text.now in
    sym (take_all _ text (all_fail-at_none is_space text (sym c.space_in.ensures ∙ c.in-None.is)).0)

pub returns-in-None-clause-rest : goal.returns-in-None-clause-rest
returns-in-None-clause-rest c =
    let text = c.args.text.now in
    let past = all_fail-at_none is_space text (sym c.space_in.ensures ∙ c.in-None.is) in
    sym (drop_all _ text (omega (arith, past.0)))
