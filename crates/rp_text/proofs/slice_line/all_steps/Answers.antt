use Rattle.std.proofs.Common.{◌≡◌, ℕ, ◌-◌, ◌<◌, length, ap, ◌∙◌, subst, arith}
use Rattle.rp_algebra.proofs.Numbers.{above_zero}
use Rattle.rp_reports.specs.Text.{step_text}
use Rattle.rp_reports.specs.SliceText.{is_written_step}
use Rattle.rp_text.specs.Readers.{items}
use Rattle.rp_text.specs.SliceReaders.{step}
use Rattle.rp_text.proofs.SliceLaws.{step_reads}
use Rattle.rp_text.proofs.ItemLemmas.{with_front, front_none, none_left, read_next, next_count, none_of, full_of, done_same, next_shorter}
use Rattle.rp_text.proofs.slice_line.all_steps.Goals as goal

pub loop-rest-init : goal.loop-rest-init
loop-rest-init c =
    let none : length c.new-steps.result ≡ 0 = ap length c.new-steps.ensures in
    let room : 36 - length c.new-steps.result ≡ 36 = omega (arith, none) in
    record {
      few = omega (arith, none);
      same = (λ i. with_front (c.new-steps.ensures i) (items step (room i) c.args.line.now)) ∙ front_none (items step 36 c.args.line.now);
    }

pub returns-then-items-eq-MAX_STEPS : goal.returns-then-items-eq-MAX_STEPS
returns-then-items-eq-MAX_STEPS c =
    let count : length c.items.result.now ≡ length c.loop-rest.steps = ap length c.items.ensures.value in
    full_of step c.loop-rest.steps (36 - length c.loop-rest.steps) c.loop-rest.rest.now (items step 36 c.args.line.now) (omega (arith, count, c.if-items-eq-MAX_STEPS.true)) (above_zero (length c.loop-rest.rest.now) c.loop-rest-test.ensures) c.loop-rest.invariant.same

pub returns-in_err-rest : goal.returns-in_err-rest
returns-in_err-rest c = c.from_residual.ensures ∙ none_of step c.loop-rest.steps (36 - length c.loop-rest.steps) c.loop-rest.rest.now (items step 36 c.args.line.now) (above_zero (length c.loop-rest.rest.now) c.loop-rest-test.ensures) c.in_err-rest.ensures c.loop-rest.invariant.same

pub loop-rest-smaller : goal.loop-rest-smaller
loop-rest-smaller c = next_shorter step_text is_written_step step step_reads c.loop-rest.steps c.next_step.new.steps c.loop-rest.rest.now c.in_ok-rest.rest.now c.in_ok-rest.ensures

pub loop-rest-preserved : goal.loop-rest-preserved
loop-rest-preserved c =
    let count : length c.items.result.now ≡ length c.loop-rest.steps = ap length c.items.ensures.value in
    let some : 0 < 36 - length c.loop-rest.steps = omega (arith, count, c.loop-rest.invariant.few, c.if-items-eq-MAX_STEPS.false) in
    let more = next_count step c.loop-rest.steps c.next_step.new.steps c.loop-rest.rest.now c.in_ok-rest.rest.now c.in_ok-rest.ensures in
    let room : 36 - length c.loop-rest.steps - 1 ≡ 36 - length c.next_step.new.steps = omega (arith, more) in
    record {
      few = omega (arith, more, some);
      same = subst (λ (k : ℕ). with_front c.next_step.new.steps (items step k c.in_ok-rest.rest.now) ≡ items step 36 c.args.line.now) room
          (read_next step c.loop-rest.steps c.next_step.new.steps (36 - length c.loop-rest.steps) c.loop-rest.rest.now c.in_ok-rest.rest.now (items step 36 c.args.line.now) some c.in_ok-rest.ensures c.loop-rest.invariant.same);
    }

pub returns : goal.returns
returns c = done_same step c.loop-rest.steps (36 - length c.loop-rest.steps) c.loop-rest.rest.now (items step 36 c.args.line.now) (none_left (length c.loop-rest.rest.now) c.loop-rest-test.ensures) c.loop-rest.invariant.same
