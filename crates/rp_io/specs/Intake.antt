-- When a source was read to its end, and the reasons why it was not.
use Rattle.std.specs.Prelude.{◌≡◌, ℕ, ◌<◌, List, [], length, Option, Some, IfSome}
use Rattle.rp_io.specs.Faults.{HasRisen}
use Rattle.rp_io.specs.declared.intake.IntakeFault.{IntakeFault}
use Rattle.rp_io.specs.declared.intake.IntakeFault.TheVariants.{Failed, TooLong, Memory}

-- the bytes are all that the source had, and no more are left
abbrev pub IsWhole : Option (List ℕ) → Option (List ℕ) → List ℕ → Type 0
IsWhole before after bytes = IfSome before (λ left. (bytes ≡ left) × (after ≡ Some []))

-- the source had more bytes than the limit
abbrev pub IsPastLimit : Option (List ℕ) → ℕ → Type 0
IsPastLimit before limit = IfSome before (λ left. limit < length left)

-- why the source was not read to its end: a read failed, or no read failed and there were more bytes than the limit; nothing is stated for want of memory
abbrev pub HasCause : ℕ → ℕ → Option (List ℕ) → ℕ → IntakeFault → Type 0
HasCause faults_before faults_after left limit Failed = HasRisen faults_before faults_after
HasCause faults_before faults_after left limit TooLong = (faults_after ≡ faults_before) × IsPastLimit left limit
HasCause faults_before faults_after left limit (Memory e) = Unit {0}
