use Rattle.std.proofs.Common.{◌≡◌, Bool, false, not, nat_eq, bit_and, ℤ, pos, ap, of_z, ◌∙◌}
use mir.Syntax.{w128}
use Rattle.rp_algebra.proofs.Tests.{false_not_true}
use Rattle.rp_elim.proofs.cross.Cross.is_seen_independent.Goals as goal

-- whether one of the last 64 bits is set
abbrev ends_in_bits : ℤ → Bool
ends_in_bits v = not (nat_eq (bit_and (of_z w128 v) 18446744073709551615) 0)

-- 0 has none
zero_ends_in_none : (v : ℤ) → v ≡ pos 0 → ends_in_bits v ≡ false
zero_ends_in_none v e = ap ends_in_bits e

pub returns : goal.returns
returns c is z = false_not_true (ends_in_bits c.weight.result) is (zero_ends_in_none c.weight.result (c.weight.ensures.value ∙ z))
