-- within EXPRESSION EXPRESSION: whether one region is within another.
use Rattle.std.specs.Prelude.{List}
use Rattle.rp_geometry.specs.sets.Sets.{IsWithin}
use Rattle.rp_geometry.specs.sets.Shape.{Part}
use Rattle.rp_semantics.specs.Compare.{is_covered}
use Rattle.rp_semantics.specs.Walk.{Walk, pass, ◌>>=◌, Tester}
use Rattle.rp_model.specs.commands.Definition.{AsksForms}
use Rattle.rp_model.specs.commands.Reply.{Reply, yes_or_no}
use Rattle.rp_model.specs.commands.Rules.{yes_where}

module _ {W : Type 0} (tester : Tester W) where
  -- answers whether the first form is within the second
  abbrev pub row_within : List Part → List Part → Walk W Reply
  row_within ps qs = do
    answer ← is_covered tester ps qs
    pass (yes_or_no answer)

-- the definition of within
abbrev pub within_definition : AsksForms
within_definition = record { row = row_within; rule = λ a b. yes_where (IsWithin a b) }
