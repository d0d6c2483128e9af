use Rattle.std.proofs.Common.{◌≡◌, ◌+◌, ◌*◌, ◌^◌, ◌≤◌, drop, fold}
use Rattle.rp_command.proofs.Digits.{step}
use Rattle.rp_command.proofs.number.short_value_of.Given as goal

-- the digits that are left lead to the number of all, and so many bytes have no greater number
abbrev pub invariant-loop-digit : goal.invariant-loop-digit
invariant-loop-digit l = record {
  small : l.value + 29 ≤ 29 * 10 ^ l.digit-index;
  same : fold step l.value (drop l.digit-index l.digits) ≡ fold step 0 l.digits;
}
