use Rattle.std.proofs.Common.{ℕ, List, ◌++◌, codes, ◌∙◌}
use Rattle.rp_seal_text.specs.ActText.{act_text}
use Rattle.rp_seal_text.specs.Fields.{number_line}
use Rattle.rp_seal_text.proofs.FieldLemmas.{three_texts}
use Rattle.rp_seal_text.proofs.proof_files.take_act_head.Goals as goal

pub returns-in_err-after_mark-clause-each : goal.returns-in_err-after_mark-clause-each
returns-in_err-after_mark-clause-each c = λ act size rest valid fits is.
    let sized : List ℕ = number_line (codes "size") size in
    absurd (c.in_err-after_mark.ensures.each (act_text act ++ (sized ++ rest)) (is ∙ three_texts (codes "rpstore act 1\n") (act_text act) sized rest))

pub returns-in_err-act-clause-each : goal.returns-in_err-act-clause-each
returns-in_err-act-clause-each c = λ act size rest valid fits is.
    let sized : List ℕ = number_line (codes "size") size in
    let mark = c.in_ok-after_mark.ensures.each (act_text act ++ (sized ++ rest)) (is ∙ three_texts (codes "rpstore act 1\n") (act_text act) sized rest) in
    absurd (c.in_err-act.ensures.each act (sized ++ rest) valid mark)

pub returns-in_err-size-clause-each : goal.returns-in_err-size-clause-each
returns-in_err-size-clause-each c = λ act size rest valid fits is.
    let sized : List ℕ = number_line (codes "size") size in
    let mark = c.in_ok-after_mark.ensures.each (act_text act ++ (sized ++ rest)) (is ∙ three_texts (codes "rpstore act 1\n") (act_text act) sized rest) in
    let read = c.in_ok-act.ensures.each act (sized ++ rest) valid mark in
    absurd (c.in_err-size.ensures.each size rest fits read.1)

pub returns-clause-each : goal.returns-clause-each
returns-clause-each c = λ act size rest valid fits is.
    let sized : List ℕ = number_line (codes "size") size in
    let mark = c.in_ok-after_mark.ensures.each (act_text act ++ (sized ++ rest)) (is ∙ three_texts (codes "rpstore act 1\n") (act_text act) sized rest) in
    let read = c.in_ok-act.ensures.each act (sized ++ rest) valid mark in
    let number = c.in_ok-size.ensures.each size rest fits read.1 in
    (read.0, number.0, number.1)
