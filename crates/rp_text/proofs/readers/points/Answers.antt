use Rattle.std.proofs.Common.{◌≡◌, ℕ, ◌-◌, ◌<◌, length, sym, ap, ◌∙◌, subst, arith}
use Rattle.rp_algebra.proofs.Numbers.{above_zero}
use Rattle.rp_reports.specs.Text.{point_text}
use Rattle.rp_reports.specs.ProofText.{is_written_point}
use Rattle.rp_text.specs.Readers.{point, items}
use Rattle.rp_text.proofs.ReaderLaws.{point_reads}
use Rattle.rp_text.proofs.ItemLemmas.{with_front, front_none, none_left, read_next, next_count, none_same, full_same, done_empty, done_filled, next_shorter}
use Rattle.rp_text.proofs.readers.points.Goals as goal

pub loop-rest-init : goal.loop-rest-init
loop-rest-init c =
    let none : length c.new-points.result ≡ 0 = ap length c.new-points.ensures in
    let room : 4 - length c.new-points.result ≡ 4 = omega (arith, none) in
    record {
      few = omega (arith, none);
      same = (λ i. with_front (c.new-points.ensures i) (items point (room i) c.args.line.now)) ∙ front_none (items point 4 c.args.line.now);
    }

pub returns-then-items-eq-MAX_ITEMS : goal.returns-then-items-eq-MAX_ITEMS
returns-then-items-eq-MAX_ITEMS c =
    let count : length c.items.result.now ≡ length c.loop-rest.points = ap length c.items.ensures.value in
    full_same point c.loop-rest.points (4 - length c.loop-rest.points) c.loop-rest.rest.now (items point 4 c.args.line.now) (omega (arith, count, c.if-items-eq-MAX_ITEMS.true)) (above_zero (length c.loop-rest.rest.now) c.loop-rest-test.ensures) c.loop-rest.invariant.same

pub returns-in_err-rest : goal.returns-in_err-rest
returns-in_err-rest c = c.from_residual.ensures ∙ none_same point c.loop-rest.points (4 - length c.loop-rest.points) c.loop-rest.rest.now (items point 4 c.args.line.now) (above_zero (length c.loop-rest.rest.now) c.loop-rest-test.ensures) c.in_err-rest.ensures c.loop-rest.invariant.same

pub loop-rest-smaller : goal.loop-rest-smaller
loop-rest-smaller c = next_shorter point_text is_written_point point point_reads c.loop-rest.points c.next_point.new.points c.loop-rest.rest.now c.in_ok-rest.rest.now c.in_ok-rest.ensures

pub loop-rest-preserved : goal.loop-rest-preserved
loop-rest-preserved c =
    let count : length c.items.result.now ≡ length c.loop-rest.points = ap length c.items.ensures.value in
    let some : 0 < 4 - length c.loop-rest.points = omega (arith, count, c.loop-rest.invariant.few, c.if-items-eq-MAX_ITEMS.false) in
    let more = next_count point c.loop-rest.points c.next_point.new.points c.loop-rest.rest.now c.in_ok-rest.rest.now c.in_ok-rest.ensures in
    let room : 4 - length c.loop-rest.points - 1 ≡ 4 - length c.next_point.new.points = omega (arith, more) in
    record {
      few = omega (arith, more, some);
      same = subst (λ (k : ℕ). with_front c.next_point.new.points (items point k c.in_ok-rest.rest.now) ≡ items point 4 c.args.line.now) room
          (read_next point c.loop-rest.points c.next_point.new.points (4 - length c.loop-rest.points) c.loop-rest.rest.now c.in_ok-rest.rest.now (items point 4 c.args.line.now) some c.in_ok-rest.ensures c.loop-rest.invariant.same);
    }

pub returns-then-is_empty : goal.returns-then-is_empty
returns-then-is_empty c =
    let none : length c.loop-rest.points ≡ 0 = sym (ap length c.items-2.ensures.value) ∙ none_left (length c.items-2.result.now) c.if-is_empty.ensures in
    done_empty point c.loop-rest.points (4 - length c.loop-rest.points) c.loop-rest.rest.now (items point 4 c.args.line.now) (none_left (length c.loop-rest.rest.now) c.loop-rest-test.ensures) none c.loop-rest.invariant.same

pub returns-else-is_empty : goal.returns-else-is_empty
returns-else-is_empty c =
    let some : 0 < length c.loop-rest.points = subst (λ (n : ℕ). 0 < n) (ap length c.items-2.ensures.value) (above_zero (length c.items-2.result.now) c.if-is_empty.ensures) in
    done_filled point c.loop-rest.points (4 - length c.loop-rest.points) c.loop-rest.rest.now (items point 4 c.args.line.now) (none_left (length c.loop-rest.rest.now) c.loop-rest-test.ensures) some c.loop-rest.invariant.same
