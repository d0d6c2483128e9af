use Rattle.std.proofs.Common.{◌≡◌, ◌<◌, ◌≤◌, ◌∙◌, length, min, get_or, ap, arith, drop, fold, ℕ, ◌+◌}
use Rattle.rp_command.specs.Held.{most_held}
use Rattle.rp_command.proofs.Digits.{step, fold-taken}
use Rattle.rp_command.proofs.number.value_of.Goals as goal

pub loop-digit-preserved : goal.loop-digit-preserved
loop-digit-preserved c =
    let i = c.loop-digit.digit-index in
    let ds = c.args.digits.now in
    let inside : i < length ds = omega arith in
    let value : c.min-value.result ≡ min (step c.loop-digit.value (get_or ds i 0)) most_held = omega (arith, c.min-value.ensures, c.from-in-loop-digit.ensures, c.saturating_sub.ensures) in
    let below : c.min-value.result ≤ most_held = omega (arith, value) in
    record {
      below = below;
      same = ap (λ (n : ℕ). min (fold step n (drop (i + 1) ds)) most_held) value ∙ fold-taken c.loop-digit.value i ds inside ∙ c.loop-digit.invariant.same;
    }
