-- The questions about two forms with the answer yes or no.
use Rattle.std.specs.Prelude.{Bool, List}
use Rattle.rp_geometry.specs.sets.Shape.{Part}
use Rattle.rp_language.specs.Expression.{Expression, Command, ask_equal, ask_within, ask_overlap, ask_contact}
use Rattle.rp_semantics.specs.Walk.{Walk, Tester}
use Rattle.rp_semantics.specs.Form.{common_in_full, touch_in_full}
use Rattle.rp_semantics.specs.Compare.{is_covered}
use Rattle.rp_eval.specs.Relations.{cover_each_other}
use Rattle.rp_eval.specs.declared.question.Question.{Question}
use Rattle.rp_eval.specs.declared.question.Question.TheVariants.{Equal, Within, Overlap, Contact}

-- the command that asks a question of two expressions
abbrev pub asking : Question → Expression → Expression → Command
asking Equal e f = ask_equal e f
asking Within e f = ask_within e f
asking Overlap e f = ask_overlap e f
asking Contact e f = ask_contact e f

-- the walk that answers a question
abbrev pub answer_to : {W : Type 0} → Tester W → Question → List Part → List Part → Walk W Bool
answer_to tester Equal ps qs = cover_each_other tester ps qs
answer_to tester Within ps qs = is_covered tester ps qs
answer_to tester Overlap ps qs = common_in_full tester ps qs
answer_to tester Contact ps qs = touch_in_full tester ps qs
