-- equal EXPRESSION EXPRESSION: whether two regions have the same points.
use Rattle.std.specs.Prelude.{true, false, List}
use Rattle.rp_geometry.specs.sets.Sets.{SameMembers}
use Rattle.rp_geometry.specs.sets.Shape.{Part}
use Rattle.rp_semantics.specs.Compare.{is_covered}
use Rattle.rp_semantics.specs.Walk.{Walk, pass, ◌>>=◌, Tester}
use Rattle.rp_model.specs.commands.Definition.{AsksForms}
use Rattle.rp_model.specs.commands.Reply.{Reply, yes_or_no}
use Rattle.rp_model.specs.commands.Rules.{yes_where}
use Rattle.rp_model.specs.commands.Within.{row_within}

module _ {W : Type 0} (tester : Tester W) where
  -- answers whether each of two forms is within the other
  abbrev pub row_equal : List Part → List Part → Walk W Reply
  row_equal ps qs = do
    there ← is_covered tester ps qs
    elim there [ false ↦ pass (yes_or_no false) | true ↦ row_within tester qs ps ]

-- the definition of equal
abbrev pub equal_definition : AsksForms
equal_definition = record { row = row_equal; rule = λ a b. yes_where (SameMembers a b) }
