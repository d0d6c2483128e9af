-- The verb and the operands of a command.
use Rattle.std.specs.Prelude.{List, [], ◌∷◌, map}
use Rattle.rp_language.specs.Expression.{Kind, name_kind, expression_kind, point_kind, height_kind, line_kind, equals_kind, names_kind, children_kind, Operand as Value, Operands, Verb, signature, Command, said}
use Rattle.rp_command.specs.declared.command.Operand.{Operand}
use Rattle.rp_command.specs.declared.command.Operand.TheVariants as operands
use Rattle.rp_command.specs.Views.{expression_of, child_of}

-- the value of an operand, with its kind
pub data Said : Type 0 where
  of_kind : (k : Kind) → Value k → Said

-- the operands of these kinds
abbrev pub operands_among : (ks : List Kind) → Operands ks → List Said
operands_among [] os = []
operands_among (k ∷ ks) os = of_kind k os.0 ∷ operands_among ks os.1

-- the operands of a command, in order
abbrev pub operands_in : Command → List Said
operands_in (said verb os) = operands_among (signature verb) os

-- the verb of a command
abbrev pub verb_in : Command → Verb
verb_in (said verb os) = verb

-- the operand of the model, if it is not missing
abbrev pub operand_of : Operand → List Said
operand_of (operands.Name x) = of_kind name_kind x.now ∷ []
operand_of (operands.Region e) = of_kind expression_kind (expression_of e.now) ∷ []
operand_of (operands.Point p) = of_kind point_kind p.now ∷ []
operand_of (operands.Height z) = of_kind height_kind z ∷ []
operand_of (operands.Line n) = of_kind line_kind n ∷ []
operand_of operands.Equals = of_kind equals_kind tt ∷ []
operand_of (operands.Names ids) = of_kind names_kind ids.now.items ∷ []
operand_of (operands.Children cs) = of_kind children_kind (map child_of cs.now.items) ∷ []
operand_of operands.Missing = []
