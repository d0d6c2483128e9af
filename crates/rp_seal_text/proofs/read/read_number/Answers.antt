use Rattle.std.proofs.Common.{◌≡◌, ℕ, List, Some, ap, sym, ◌∙◌, decimal, true, nat_eq}
use Rattle.std.specs.Cmp.Lexicographic.{pointwise}
use Rattle.std.proofs.lemmas.Cmp.{nat_list_eq_equiv}
use Rattle.std.proofs.lemmas.Fmt.{parse-decimal}
use Rattle.rp_seal_text.proofs.read.read_number.Goals as goal

pub returns-in_default-clause-each : goal.returns-in_default-clause-each
returns-in_default-clause-each c = λ number fits is.
    let ok = parse-decimal 64 number c.args.digits.now c.parse.result fits fits is c.parse.ensures.value.0 in
    let w = c.in_default.is in
    absurd (cc)

pub returns-then-eq-clause-each : goal.returns-then-eq-clause-each
returns-then-eq-clause-each c = λ number fits is.
    let ok = parse-decimal 64 number c.args.digits.now c.parse.result fits fits is c.parse.ensures.value.0 in
    let w = c.in-Ok.is in
    let same : c.in-Ok.number ≡ number = (cc) in
    ap (λ (n : ℕ). Some n) same

pub returns-else-eq-clause-each : goal.returns-else-eq-clause-each
returns-else-eq-clause-each c = λ number fits is.
    let ok = parse-decimal 64 number c.args.digits.now c.parse.result fits fits is c.parse.ensures.value.0 in
    let w = c.in-Ok.is in
    let same : c.in-Ok.number ≡ number = (cc) in
    let text : c.format.result.now ≡ c.args.digits.now = c.format.ensures.text ∙ ap decimal same ∙ sym is in
    let yes : c.eq.result ≡ true = c.eq.ensures ∙ ap (λ (v : List ℕ). pointwise nat_eq v c.args.digits.now) text ∙ nat_list_eq_equiv.refl c.args.digits.now in
    absurd (cc)
