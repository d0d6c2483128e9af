use Rattle.std.proofs.Common.{ℕ, List, ◌∷◌, ◌++◌, ap, sym, ◌∙◌}
use Rattle.rp_seal_text.proofs.LineLemmas.{three_lines-are}
use Rattle.rp_seal_text.proofs.lines.first_lines.Goals as goal

pub returns-in_err-root-clause-each : goal.returns-in_err-root-clause-each
returns-in_err-root-clause-each c = λ origin size root rest is_origin is_size is_root is.
    let first = c.in_ok-origin.ensures.each origin (size ++ 10 ∷ (root ++ 10 ∷ rest)) is_origin (is ∙ three_lines-are origin size root rest) in
    let second = c.in_ok-size.ensures.each size (root ++ 10 ∷ rest) is_size first.1 in
    absurd (c.in_err-root.ensures.each root rest is_root second.1)

pub returns-clause-found : goal.returns-clause-found
returns-clause-found c =
    let origin : List ℕ = c.in_ok-origin.origin.now in
    let size : List ℕ = c.in_ok-size.size.now in
    let root : List ℕ = c.in_ok-root.root.now in
    let rest : List ℕ = c.in_ok-root.field-0-1.now in (
      rest,
      c.in_ok-origin.ensures.found
          ∙ ap (λ v. origin ++ 10 ∷ v) (c.in_ok-size.ensures.found ∙ ap (λ v. size ++ 10 ∷ v) c.in_ok-root.ensures.found)
          ∙ sym (three_lines-are origin size root rest),
    )

pub returns-clause-each : goal.returns-clause-each
returns-clause-each c = λ origin size root rest is_origin is_size is_root is.
    let first = c.in_ok-origin.ensures.each origin (size ++ 10 ∷ (root ++ 10 ∷ rest)) is_origin (is ∙ three_lines-are origin size root rest) in
    let second = c.in_ok-size.ensures.each size (root ++ 10 ∷ rest) is_size first.1 in
    let third = c.in_ok-root.ensures.each root rest is_root second.1 in
    (first.0, second.0, third.0)
