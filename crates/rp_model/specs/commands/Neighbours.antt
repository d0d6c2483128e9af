-- neighbours ID: the lots in contact with a lot.
use Rattle.std.specs.Prelude.{true, false, List, [], ◌∷◌, ◌++◌, ◌≡◌, ◌⊎◌}
use Rattle.rp_geometry.specs.sets.Contact.{IsInContact}
use Rattle.rp_geometry.specs.sets.Shape.{Shape, Part}
use Rattle.rp_language.specs.Expression.{signature, neighbours_verb}
use Rattle.rp_language.specs.Name.{Label}
use Rattle.rp_semantics.specs.Form.{touch_nearby, touching_pair}
use Rattle.rp_semantics.specs.Walk.{Walk, pass, ◌>>=◌, ◌>>◌, Tester}
use Rattle.rp_model.specs.commands.Checks.{check_live}
use Rattle.rp_model.specs.commands.Definition.{Definition}
use Rattle.rp_model.specs.commands.Parts.{count_with_each, lot_parts, parts_with_id}
use Rattle.rp_model.specs.commands.Reply.{Reply, reply_lines, check}
use Rattle.rp_model.specs.commands.Rules.{Rule, answers, names_then}
use Rattle.rp_model.specs.commands.Sets.{set_with_id}
use Rattle.rp_model.specs.commands.Verdict.{neighbour_lines}
use Rattle.rp_model.specs.states.State.{Lot, StateOf, other_live_lots_of_layer, nothing_changes, State}

module _ {W : Type 0} (tester : Tester W) where
  -- appends the id of a lot, if it is in contact with the parts, to the ids found so far
  abbrev pub touched_lot : {S : Type 0} → List Label → List Part → Lot S → Walk W (List Label)
  touched_lot found ps l = do
    touches ← touch_nearby tester ps l.parts
    pass (elim touches [ true ↦ found ++ l.id ∷ [] | false ↦ found ])

  -- appends the ids of the lots of a list that are in contact with the parts to the ids found so far
  abbrev pub touched_lots : {S : Type 0} → List Label → List Part → List (Lot S) → Walk W (List Label)
  touched_lots found ps [] = pass found
  touched_lots found ps (l ∷ ls) = do
    more ← touched_lot found ps l
    touched_lots more ps ls

  -- the row: the lot must be live; the other live lots of its layer that are in contact with it
  abbrev pub row_neighbours : {S : Type 0} → StateOf S → Label → Walk W Reply
  row_neighbours s x = check (check_live s x) do
    tester.count (count_with_each touching_pair (parts_with_id s x) (lot_parts (other_live_lots_of_layer s x)))
    found ← touched_lots [] (parts_with_id s x) (other_live_lots_of_layer s x)
    pass (reply_lines (neighbour_lines found))

-- the ids are those of the lots with the property, in order
abbrev pub AreSelected : (Lot Shape → Type 0) → List (Lot Shape) → List Label → Type 0
AreSelected P [] ids = ids ≡ []
AreSelected P (l ∷ ls) ids = ((others : List Label) × P l × (ids ≡ l.id ∷ others) × AreSelected P ls others) ⊎ ((¬ P l) × AreSelected P ls ids)

-- the rule: the other live lots of the layer of the lot that are in contact with it
abbrev pub rule_neighbours : State → Label → Rule
rule_neighbours s x =
    names_then (check_live s x)
    (λ given. (ids : List Label) × AreSelected (λ l. IsInContact (set_with_id s x) l.set) (other_live_lots_of_layer s x) ids × answers (neighbour_lines ids) given)

-- the definition of neighbours
abbrev pub neighbours_definition : Definition (signature neighbours_verb)
neighbours_definition = record {
  may_meet_limit = true;
  row = λ t s (x, end). row_neighbours t s x;
  rule = λ s formed (x, end). rule_neighbours s x;
  change = λ s os. nothing_changes;
}
