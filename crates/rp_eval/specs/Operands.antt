-- The operands of a command.
use Rattle.rp_eval.specs.declared.operand.Operand.{Operand}
use Rattle.rp_eval.specs.declared.operand.Operand.TheVariants.{Kept, Made}

-- the form of an operand
abbrev pub form_of : {F : Type 0} → Operand F → F
form_of (Kept form) = form.now
form_of (Made form) = form
