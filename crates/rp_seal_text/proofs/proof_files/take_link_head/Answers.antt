use Rattle.std.proofs.Common.{ℕ, List, ◌++◌, codes, ◌∙◌}
use Rattle.rp_seal_text.specs.Fields.{number_line}
use Rattle.rp_seal_text.proofs.FieldLemmas.{three_texts}
use Rattle.rp_seal_text.proofs.proof_files.take_link_head.Goals as goal

pub returns-in_err-after_mark-clause-each : goal.returns-in_err-after_mark-clause-each
returns-in_err-after_mark-clause-each c = λ from to rest fits_from fits_to is.
    let first : List ℕ = number_line (codes "from") from in
    let second : List ℕ = number_line (codes "to") to in
    absurd (c.in_err-after_mark.ensures.each (first ++ (second ++ rest)) (is ∙ three_texts (codes "rpstore link 1\n") first second rest))
