use Rattle.std.proofs.Common.{arith, ◌∷◌, length, ◌<◌, ◌≤◌}
use Rattle.std.proofs.lemmas.Result.{err_from_is_err_and}
use Rattle.rp_language.specs.Grammar.{space}
use Rattle.rp_reports.specs.Text.{term_text}
use Rattle.rp_text.proofs.FrontLemmas.{front_within, more_written, all_written}
use Rattle.rp_text.proofs.proof.write_terms.Goals as goal

pub returns-in_err-write_spaced_term : goal.returns-in_err-write_spaced_term
returns-in_err-write_spaced_term c =
    let p = err_from_is_err_and c.from_residual.result c.from_residual.ensures.1 in
    let inside : c.loop-term.term-index < length c.args.terms.now = omega arith in
    let text = term_text in
    rw (p.1)
    (front_within (λ x. space ∷ text x) c.args.out.now.items c.loop-term.out.items c.write_spaced_term.new.out.items c.args.terms.now c.loop-term.term-index c.term-item.result inside c.term-item.is c.loop-term.invariant c.in_err-write_spaced_term.ensures)

pub loop-term-preserved : goal.loop-term-preserved
loop-term-preserved c =
    let inside : c.loop-term.term-index < length c.args.terms.now = omega arith in
    let text = term_text in
    more_written (λ x. space ∷ text x) c.args.out.now.items c.loop-term.out.items c.write_spaced_term.new.out.items c.args.terms.now c.loop-term.term-index c.term-item.result inside c.term-item.is c.loop-term.invariant c.in_ok-write_spaced_term.ensures

pub returns : goal.returns
returns c =
    let text = term_text in
    let over : length c.args.terms.now ≤ c.loop-term.term-index = omega arith in
    all_written (λ x. space ∷ text x) c.args.out.now.items c.loop-term.out.items c.args.terms.now c.loop-term.term-index over c.loop-term.invariant
