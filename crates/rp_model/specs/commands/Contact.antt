-- contact EXPRESSION EXPRESSION: whether the closures of two regions share a point.
use Rattle.std.specs.Prelude.{List}
use Rattle.rp_geometry.specs.sets.Contact.{IsInContact}
use Rattle.rp_geometry.specs.sets.Shape.{Part}
use Rattle.rp_semantics.specs.Form.{touch_in_full}
use Rattle.rp_semantics.specs.Walk.{Walk, pass, ◌>>=◌, Tester}
use Rattle.rp_model.specs.commands.Definition.{AsksForms}
use Rattle.rp_model.specs.commands.Reply.{Reply, yes_or_no}
use Rattle.rp_model.specs.commands.Rules.{yes_where}

module _ {W : Type 0} (tester : Tester W) where
  -- answers whether two forms are in contact
  abbrev pub row_contact : List Part → List Part → Walk W Reply
  row_contact ps qs = do
    answer ← touch_in_full tester ps qs
    pass (yes_or_no answer)

-- the definition of contact
abbrev pub contact_definition : AsksForms
contact_definition = record { row = row_contact; rule = λ a b. yes_where (IsInContact a b) }
