use Rattle.std.proofs.Common.{ℕ, ◌+◌, ◌≤◌, length, take, sym, ap, ◌∙◌, subst}
use Rattle.std.specs.Prelude.{option_map, IfSome, Option, Some, None}
use Rattle.rp_reports.specs.ProofText.{line_number}
use Rattle.rp_text.specs.Readers.{echo_of}
use Rattle.rp_text.proofs.EchoLaws.{echo_found, echo_alone, echo_unmarked, place_inside, place_within}
use Rattle.rp_text.proofs.echo.read_echo.Goals as goal

pub returns-in-None-clause-read : goal.returns-in-None-clause-read
returns-in-None-clause-read c =
    ap (option_map (echo_of c.args.line.now)) c.numbered.ensures
    ∙ echo_alone c.args.line.now c.in_ok-rest.rest.now (sym c.in_ok-rest.ensures) (sym c.place_of.ensures ∙ c.in-None.is)

pub returns-in-Some-clause-read : goal.returns-in-Some-clause-read
returns-in-Some-clause-read c =
    ap (option_map (echo_of c.args.line.now)) c.numbered-in-Some.ensures
    ∙ echo_found c.args.line.now c.in_ok-rest.rest.now c.in-Some.end (sym c.in_ok-rest.ensures) (sym c.place_of.ensures ∙ c.in-Some.is)

pub returns-in-Some-clause-within : goal.returns-in-Some-clause-within
returns-in-Some-clause-within c =
    subst (λ (r : Option (ℕ × Option ℕ)). IfSome r (λ p. IfSome p.1 (λ k. k ≤ length c.args.line.now))) (sym c.numbered-in-Some.ensures)
    (place_within (line_number (take c.in-Some.end c.in_ok-rest.rest.now)) (Some (c.in-Some.end + 3)) (λ k. k ≤ length c.args.line.now)
    (place_inside c.args.line.now c.in_ok-rest.rest.now c.in-Some.end (sym c.in_ok-rest.ensures) (sym c.place_of.ensures ∙ c.in-Some.is)))

pub returns-in-None-clause-within : goal.returns-in-None-clause-within
returns-in-None-clause-within c =
    subst (λ (r : Option (ℕ × Option ℕ)). IfSome r (λ p. IfSome p.1 (λ k. k ≤ length c.args.line.now))) (sym c.numbered.ensures)
    (place_within (line_number c.in_ok-rest.rest.now) None (λ k. k ≤ length c.args.line.now) tt)

pub returns-in_err-rest-clause-read : goal.returns-in_err-rest-clause-read
returns-in_err-rest-clause-read c =
    ap (option_map (echo_of c.args.line.now)) c.from_residual.ensures
    ∙ sym (echo_unmarked c.args.line.now (sym c.in_err-rest.ensures))
