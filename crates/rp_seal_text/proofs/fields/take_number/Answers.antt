use Rattle.std.proofs.Common.{◌≡◌, ◌∷◌, ◌++◌, Some, None, decimal, ◌∙◌}
use Rattle.rp_seal_text.proofs.FieldLemmas.{named_number_line, number_line-then}
use Rattle.rp_seal_text.proofs.fields.take_number.Goals as goal

pub returns-in_err-line-clause-each : goal.returns-in_err-line-clause-each
returns-in_err-line-clause-each c = λ n rest fits is.
    absurd (c.in_err-line.ensures.each (c.args.name.now ++ 32 ∷ decimal n) rest (named_number_line c.args.name.now n c.requires fits) (is ∙ number_line-then c.args.name.now n rest))

pub returns-in_err-spaced-clause-each : goal.returns-in_err-spaced-clause-each
returns-in_err-spaced-clause-each c = λ n rest fits is.
    let line = c.in_ok-line.ensures.each (c.args.name.now ++ 32 ∷ decimal n) rest (named_number_line c.args.name.now n c.requires fits) (is ∙ number_line-then c.args.name.now n rest) in
    absurd (c.in_err-spaced.ensures.each (32 ∷ decimal n) line.0)

pub returns-in_err-digits-clause-each : goal.returns-in_err-digits-clause-each
returns-in_err-digits-clause-each c = λ n rest fits is.
    let line = c.in_ok-line.ensures.each (c.args.name.now ++ 32 ∷ decimal n) rest (named_number_line c.args.name.now n c.requires fits) (is ∙ number_line-then c.args.name.now n rest) in
    absurd (c.in_err-digits.ensures.each (decimal n) (c.in_ok-spaced.ensures.each (32 ∷ decimal n) line.0))

pub returns-in_err-number-clause-each : goal.returns-in_err-number-clause-each
returns-in_err-number-clause-each c = λ n rest fits is.
    let line = c.in_ok-line.ensures.each (c.args.name.now ++ 32 ∷ decimal n) rest (named_number_line c.args.name.now n c.requires fits) (is ∙ number_line-then c.args.name.now n rest) in
    let digits = c.in_ok-digits.ensures.each (decimal n) (c.in_ok-spaced.ensures.each (32 ∷ decimal n) line.0) in
    let no : None ≡ Some n = c.in_err-number.ensures.each n fits digits in (cc)

pub returns-clause-each : goal.returns-clause-each
returns-clause-each c = λ n rest fits is.
    let line = c.in_ok-line.ensures.each (c.args.name.now ++ 32 ∷ decimal n) rest (named_number_line c.args.name.now n c.requires fits) (is ∙ number_line-then c.args.name.now n rest) in
    let digits = c.in_ok-digits.ensures.each (decimal n) (c.in_ok-spaced.ensures.each (32 ∷ decimal n) line.0) in
    let found : Some c.in_ok-number.number ≡ Some n = c.in_ok-number.ensures.each n fits digits in
    let same : c.in_ok-number.number ≡ n = (cc) in
    (same, line.1)
