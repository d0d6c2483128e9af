-- The contracts of calls that read words.
use Rattle.std.specs.Prelude.{◌≡◌, Result, Ok, Err}
use Rattle.rp_language.specs.Expression.{Expression}
use Rattle.rp_language.specs.Grammar.{Place, Fault, Version, Reader, ◌>>=◌, gives, expression}
use Rattle.rp_command.specs.Views.{fault_of}
use Rattle.rp_syntax.specs.declared.fault.ReadFault.{ReadFault}
use Rattle.rp_syntax.specs.declared.fault.ReadFault.TheVariants.{Bad, Memory}

-- the fault is the first one that the grammar finds; nothing is stated if memory ran out
abbrev pub FaultIs : {A : Type 0} → ReadFault → Result (A × Place) Fault → Type 0
FaultIs (Bad why) read = read ≡ Err (fault_of why)
FaultIs (Memory error) read = Unit {0}

-- the value, as `view` sees it, and the position after it are those of the grammar; a fault is the grammar's first one
abbrev pub Reads : {X A : Type 0} → (X → A) → Result X ReadFault → Place → Result (A × Place) Fault → Type 0
Reads view (Ok x) place read = read ≡ Ok (view x, place)
Reads view (Err fault) place read = FaultIs fault read

-- reads two expressions, and makes a value of both
abbrev pub both_read : {A : Type 0} → Version → (Expression → Expression → A) → Reader A
both_read v of = do
  e ← expression v
  f ← expression v
  gives (of e f)
