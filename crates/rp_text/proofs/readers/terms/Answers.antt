use Rattle.std.proofs.Common.{◌≡◌, ℕ, ◌-◌, ◌<◌, length, sym, ap, ◌∙◌, subst, arith}
use Rattle.rp_algebra.proofs.Numbers.{above_zero}
use Rattle.rp_reports.specs.Text.{term_text}
use Rattle.rp_reports.specs.ProofText.{is_written_multiple}
use Rattle.rp_text.specs.Readers.{term, items}
use Rattle.rp_text.proofs.ReaderLaws.{term_reads}
use Rattle.rp_text.proofs.ItemLemmas.{with_front, front_none, none_left, read_next, next_count, none_same, full_same, done_empty, done_filled, next_shorter}
use Rattle.rp_text.proofs.readers.terms.Goals as goal

pub loop-rest-init : goal.loop-rest-init
loop-rest-init c =
    let none : length c.new-terms.result ≡ 0 = ap length c.new-terms.ensures in
    let room : 4 - length c.new-terms.result ≡ 4 = omega (arith, none) in
    record {
      few = omega (arith, none);
      same = (λ i. with_front (c.new-terms.ensures i) (items term (room i) c.args.line.now)) ∙ front_none (items term 4 c.args.line.now);
    }

pub returns-then-items-eq-MAX_ITEMS : goal.returns-then-items-eq-MAX_ITEMS
returns-then-items-eq-MAX_ITEMS c =
    let count : length c.items.result.now ≡ length c.loop-rest.terms = ap length c.items.ensures.value in
    full_same term c.loop-rest.terms (4 - length c.loop-rest.terms) c.loop-rest.rest.now (items term 4 c.args.line.now) (omega (arith, count, c.if-items-eq-MAX_ITEMS.true)) (above_zero (length c.loop-rest.rest.now) c.loop-rest-test.ensures) c.loop-rest.invariant.same

pub returns-in_err-rest : goal.returns-in_err-rest
returns-in_err-rest c = c.from_residual.ensures ∙ none_same term c.loop-rest.terms (4 - length c.loop-rest.terms) c.loop-rest.rest.now (items term 4 c.args.line.now) (above_zero (length c.loop-rest.rest.now) c.loop-rest-test.ensures) c.in_err-rest.ensures c.loop-rest.invariant.same

pub loop-rest-smaller : goal.loop-rest-smaller
loop-rest-smaller c = next_shorter term_text is_written_multiple term term_reads c.loop-rest.terms c.next_term.new.terms c.loop-rest.rest.now c.in_ok-rest.rest.now c.in_ok-rest.ensures

pub loop-rest-preserved : goal.loop-rest-preserved
loop-rest-preserved c =
    let count : length c.items.result.now ≡ length c.loop-rest.terms = ap length c.items.ensures.value in
    let some : 0 < 4 - length c.loop-rest.terms = omega (arith, count, c.loop-rest.invariant.few, c.if-items-eq-MAX_ITEMS.false) in
    let more = next_count term c.loop-rest.terms c.next_term.new.terms c.loop-rest.rest.now c.in_ok-rest.rest.now c.in_ok-rest.ensures in
    let room : 4 - length c.loop-rest.terms - 1 ≡ 4 - length c.next_term.new.terms = omega (arith, more) in
    record {
      few = omega (arith, more, some);
      same = subst (λ (k : ℕ). with_front c.next_term.new.terms (items term k c.in_ok-rest.rest.now) ≡ items term 4 c.args.line.now) room
          (read_next term c.loop-rest.terms c.next_term.new.terms (4 - length c.loop-rest.terms) c.loop-rest.rest.now c.in_ok-rest.rest.now (items term 4 c.args.line.now) some c.in_ok-rest.ensures c.loop-rest.invariant.same);
    }

pub returns-then-is_empty : goal.returns-then-is_empty
returns-then-is_empty c =
    let none : length c.loop-rest.terms ≡ 0 = sym (ap length c.items-2.ensures.value) ∙ none_left (length c.items-2.result.now) c.if-is_empty.ensures in
    done_empty term c.loop-rest.terms (4 - length c.loop-rest.terms) c.loop-rest.rest.now (items term 4 c.args.line.now) (none_left (length c.loop-rest.rest.now) c.loop-rest-test.ensures) none c.loop-rest.invariant.same

pub returns-else-is_empty : goal.returns-else-is_empty
returns-else-is_empty c =
    let some : 0 < length c.loop-rest.terms = subst (λ (n : ℕ). 0 < n) (ap length c.items-2.ensures.value) (above_zero (length c.items-2.result.now) c.if-is_empty.ensures) in
    done_filled term c.loop-rest.terms (4 - length c.loop-rest.terms) c.loop-rest.rest.now (items term 4 c.args.line.now) (none_left (length c.loop-rest.rest.now) c.loop-rest-test.ensures) some c.loop-rest.invariant.same
