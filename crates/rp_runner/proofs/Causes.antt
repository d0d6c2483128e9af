-- Why an output was not put.
use Rattle.std.proofs.Common.{ℕ, ◌≤◌, arith}
use Rattle.rp_scripts.specs.declared.fault.OutputFault.{OutputFault}
use Rattle.rp_scripts.specs.declared.fault.OutputFault.TheVariants.{Put, Memory}
use Rattle.rp_scripts.specs.Output.{HasOutputCause}

-- a fault since a later count is one since an earlier count
pub earlier_cause : (k m n : ℕ) (e : OutputFault) → k ≤ m → HasOutputCause m n e → HasOutputCause k n e
earlier_cause k m n Put f h = omega (arith, f, h)
earlier_cause k m n (Memory e) f h = tt
