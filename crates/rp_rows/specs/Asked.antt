-- The questions about points and forms: the rows after their forms, and the operands as the model has them.
use Rattle.std.specs.Prelude.{List, [], ◌∷◌, option_map}
use Rattle.rp_geometry.specs.Geometry.{RationalPoint}
use Rattle.rp_geometry.specs.sets.Shape.{Part, is_member}
use Rattle.rp_language.specs.Expression.{Expression, Meaning, resolve_names, first_unknown_among}
use Rattle.rp_semantics.specs.Walk.{Walk, Tester, pass}
use Rattle.rp_model.specs.commands.Verdict.{unknown, part_lines_of}
use Rattle.rp_model.specs.commands.Reply.{Reply, reply_lines, yes_or_no, check}
use Rattle.rp_model.specs.commands.Parts.{shapes_of_parts}
use Rattle.rp_model.specs.commands.Equal.{row_equal}
use Rattle.rp_model.specs.commands.Within.{row_within}
use Rattle.rp_model.specs.commands.Overlap.{row_overlap}
use Rattle.rp_model.specs.commands.Contact.{row_contact}
use Rattle.rp_eval.specs.declared.question.Question.{Question}
use Rattle.rp_eval.specs.declared.question.Question.TheVariants.{Equal, Within, Overlap, Contact}
use Rattle.rp_eval.specs.declared.operand.Operand.{Operand}
use Rattle.rp_eval.specs.Operands.{form_of}

-- the forms of two operands, each as the model has it
abbrev pub both_of : {F A : Type 0} → (F → A) → Operand F × Operand F → A × A
both_of view (a, b) = (view (form_of a), view (form_of b))

-- the row of a membership
abbrev pub row_of_member : {W : Type 0} → Meaning (List Part) → Expression → RationalPoint → Walk W Reply
row_of_member m e p = check (option_map unknown (first_unknown_among m (e ∷ []))) (pass (yes_or_no (is_member (resolve_names (shapes_of_parts m) e) p)))

-- the row of show after its form: the verdict lines of the parts
abbrev pub row_show : {W : Type 0} → List Part → Walk W Reply
row_show ps = pass (reply_lines (part_lines_of ps))

-- the row of a question after its two forms: the answer
abbrev pub row_asking : {W : Type 0} → Tester W → Question → List Part → List Part → Walk W Reply
row_asking tester Equal ps qs = row_equal tester ps qs
row_asking tester Within ps qs = row_within tester ps qs
row_asking tester Overlap ps qs = row_overlap tester ps qs
row_asking tester Contact ps qs = row_contact tester ps qs
