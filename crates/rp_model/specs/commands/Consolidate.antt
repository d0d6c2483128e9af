-- consolidate ID COUNT ID ..: consolidates several lots into one.
use Rattle.std.specs.Prelude.{◌+◌, true, List, [], ◌∷◌, map, length}
use Rattle.rp_geometry.specs.parts.Parts.{most_parts}
use Rattle.rp_language.specs.Expression.{signature, consolidate_verb}
use Rattle.rp_language.specs.Name.{Label}
use Rattle.rp_semantics.specs.Walk.{Walk, pass, ◌>>◌}
use Rattle.rp_model.specs.commands.Checks.{check_consolidate}
use Rattle.rp_model.specs.commands.Definition.{Definition}
use Rattle.rp_model.specs.commands.Parts.{parts_with_id, joined_parts, new_lot}
use Rattle.rp_model.specs.commands.Reply.{Reply, accepted, check, check_size}
use Rattle.rp_model.specs.commands.Rules.{names_then, accepts}
use Rattle.rp_model.specs.commands.Sets.{set_with_id, union_of, lot_of_set}
use Rattle.rp_model.specs.states.State.{most_kept_parts, StateOf, layer_of_first, parts_under_lots, lots_replaced}

-- the checks on names and the two sizes; then the parts of the lots, one list after another, become one lot
abbrev pub row_consolidate : {S W : Type 0} → StateOf S → Label → List Label → Walk W Reply
row_consolidate s new ids = check (check_consolidate s new ids) do
  check_size (length (joined_parts (map (λ x. parts_with_id s x) ids))) most_parts
  check_size (parts_under_lots s.lots + length (joined_parts (map (λ x. parts_with_id s x) ids))) most_kept_parts
  pass (accepted (lots_replaced ids (new_lot (layer_of_first s ids) new (joined_parts (map (λ x. parts_with_id s x) ids)) ids ∷ [])))

-- the definition of consolidate
abbrev pub consolidate_definition : Definition (signature consolidate_verb)
consolidate_definition = record {
  may_meet_limit = true;
  row = λ t s (x, (ids, end)). row_consolidate s x ids;
  rule = λ s formed (x, (ids, end)). names_then (check_consolidate s x ids) accepts;
  change = λ s (x, (ids, end)). lots_replaced ids (lot_of_set (layer_of_first s ids) x (union_of (map (λ y. set_with_id s y) ids)) ids ∷ []);
}
