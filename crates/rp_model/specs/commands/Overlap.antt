-- overlap EXPRESSION EXPRESSION: whether two regions share a point.
use Rattle.std.specs.Prelude.{List}
use Rattle.rp_geometry.specs.sets.Sets.{Overlaps}
use Rattle.rp_geometry.specs.sets.Shape.{Part}
use Rattle.rp_semantics.specs.Form.{common_in_full}
use Rattle.rp_semantics.specs.Walk.{Walk, pass, ◌>>=◌, Tester}
use Rattle.rp_model.specs.commands.Definition.{AsksForms}
use Rattle.rp_model.specs.commands.Reply.{Reply, yes_or_no}
use Rattle.rp_model.specs.commands.Rules.{yes_where}

module _ {W : Type 0} (tester : Tester W) where
  -- answers whether two forms share a member
  abbrev pub row_overlap : List Part → List Part → Walk W Reply
  row_overlap ps qs = do
    answer ← common_in_full tester ps qs
    pass (yes_or_no answer)

-- the definition of overlap
abbrev pub overlap_definition : AsksForms
overlap_definition = record { row = row_overlap; rule = λ a b. yes_where (Overlaps a b) }
