-- The offsets of edges, as the code reads them.
use Rattle.std.proofs.Common.{◌^◌, ℤ, arith, sym, subst, to_z, of_z}
use Rattle.std.specs.Int.RustNames.{FitsSigned}
use Rattle.std.proofs.lemmas.Int.{ints, to_z-of_z}
use mir.Syntax.{w64}
use Rattle.rp_algebra.specs.Within.{IsWithin}

-- a number of 64 bits is at most 2^63 in size, as it is read
pub offset_within : (v : ℤ) → FitsSigned w64 v → IsWithin (2 ^ 63) (to_z w64 (of_z w64 v))
offset_within v f = subst (IsWithin (2 ^ 63)) (sym (to_z-of_z w64 v f)) (record { abs_le = (let h = f.sfits in omega (arith, ints, h)) })
