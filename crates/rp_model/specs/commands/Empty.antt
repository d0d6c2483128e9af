-- empty EXPRESSION: whether a region has no point.
use Rattle.std.specs.Prelude.{List}
use Rattle.rp_geometry.specs.sets.Sets.{IsEmpty}
use Rattle.rp_geometry.specs.sets.Shape.{Part}
use Rattle.rp_semantics.specs.Compare.{show_then_no}
use Rattle.rp_semantics.specs.Walk.{Walk, pass, ◌>>=◌, Tester}
use Rattle.rp_model.specs.commands.Definition.{AsksForm}
use Rattle.rp_model.specs.commands.Reply.{Reply, yes_or_no}
use Rattle.rp_model.specs.commands.Rules.{yes_where}

module _ {W : Type 0} (tester : Tester W) where
  -- answers yes if there is no part; otherwise no, and a strict test shows that the first part has a member
  abbrev pub row_empty : List Part → Walk W Reply
  row_empty ps = do
    answer ← show_then_no tester ps
    pass (yes_or_no answer)

-- the definition of empty
abbrev pub empty_definition : AsksForm
empty_definition = record { row = row_empty; rule = λ formed a. yes_where (IsEmpty a) }
