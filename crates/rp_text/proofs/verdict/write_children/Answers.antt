use Rattle.std.proofs.Common.{◌≡◌, ℕ, List, [], ◌∷◌, ◌++◌, codes, sym, ap, append_assoc}
use Rattle.std.specs.Fmt.{decimal}
use Rattle.std.proofs.lemmas.Result.{err_from_is_err_and}
use Rattle.rp_language.specs.Grammar.{space, spaced}
use Rattle.rp_model.specs.commands.Verdict.{children_overlap}
use Rattle.rp_reports.specs.Text.{refusal_text}
use Rattle.rp_command.proofs.Fronts.{front_before}
use Rattle.rp_text.proofs.FrontLemmas.{front_same, writes_behind, writes_same}
use Rattle.rp_text.proofs.verdict.write_children.Goals as goal

-- the two numbers, with a space between them
abbrev numbers_text : ℕ → ℕ → List ℕ
numbers_text m n = spaced (decimal m ∷ decimal n ∷ [])

-- the word and the two numbers are the text of the refusal
whole_text : (m n : ℕ) → codes "childrenoverlap " ++ numbers_text m n ≡ refusal_text (children_overlap m n)
whole_text m n = ap (λ (xs : List ℕ). codes "childrenoverlap " ++ xs) (sym (append_assoc (decimal m) (space ∷ []) (decimal n)))

pub returns-in_err-append : goal.returns-in_err-append
returns-in_err-append c =
    let p = err_from_is_err_and c.from_residual.result c.from_residual.ensures.1 in
    let numbers = numbers_text c.args.first c.args.second in
    let old = c.args.out.now.items in
    let new = c.append.new.out.items in
    rw (p.1) (front_same old new _ _ (whole_text c.args.first c.args.second) (front_before old new (codes "childrenoverlap ") numbers c.in_err-append.ensures))

pub returns : goal.returns
returns c =
    let numbers = numbers_text c.args.first c.args.second in
    let old = c.args.out.now.items in
    let new = c.write_spaced.new.out.items in
    writes_same c.write_spaced.result old new _ _ (whole_text c.args.first c.args.second)
    (writes_behind c.write_spaced.result old c.append.new.out.items new (codes "childrenoverlap ") numbers c.in_ok-append.ensures c.write_spaced.ensures)
