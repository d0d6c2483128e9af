use Rattle.std.proofs.Common.{◌≡◌, ◌≤◌, min, drop, fold}
use Rattle.rp_command.specs.Held.{most_held}
use Rattle.rp_command.proofs.Digits.{step}
use Rattle.rp_command.proofs.number.value_of.Given as goal

-- the digits that are left lead to the number of all
abbrev pub invariant-loop-digit : goal.invariant-loop-digit
invariant-loop-digit l = record {
  below : l.value ≤ most_held;
  same : min (fold step l.value (drop l.digit-index l.digits)) most_held ≡ min (fold step 0 l.digits) most_held;
}
