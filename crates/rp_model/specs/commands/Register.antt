-- register ID EXPRESSION: a new lot.
use Rattle.std.specs.Prelude.{◌+◌, true, false, ◌==◌, List, [], ◌∷◌, length, Option, Some, None, option_map}
use Rattle.rp_geometry.specs.sets.Sets.{IsEmpty, Overlaps}
use Rattle.rp_geometry.specs.sets.Shape.{Shape, Part}
use Rattle.rp_language.specs.Expression.{signature, register_verb}
use Rattle.rp_language.specs.Name.{Label}
use Rattle.rp_semantics.specs.Form.{common_nearby, near_pair}
use Rattle.rp_semantics.specs.Walk.{Walk, pass, ◌>>=◌, ◌>>◌, Tester}
use Rattle.rp_model.specs.commands.Checks.{refuse_if, and_then, check_new}
use Rattle.rp_model.specs.commands.Definition.{Definition, with_form}
use Rattle.rp_model.specs.commands.Parts.{count_with_each, lot_parts, new_lot}
use Rattle.rp_model.specs.commands.Reply.{Reply, accepted, check, check_size}
use Rattle.rp_model.specs.commands.Rules.{Rule, names_then, refused_where, accepts}
use Rattle.rp_model.specs.commands.Sets.{set_of, lot_of_set}
use Rattle.rp_model.specs.commands.Verdict.{empty, overlaps}
use Rattle.rp_model.specs.states.State.{most_kept_parts, Lot, StateOf, present_lots, parts_in, parts_under_lots, lots_replaced, State}

module _ {W : Type 0} (tester : Tester W) where
  -- the id of the first lot of a list that shares a member with the parts
  abbrev pub first_overlapped : {S : Type 0} → List Part → List (Lot S) → Walk W (Option Label)
  first_overlapped ps [] = pass None
  first_overlapped ps (l ∷ ls) = do
    found ← common_nearby tester ps l.parts
    elim found [ true ↦ pass (Some l.id) | false ↦ first_overlapped ps ls ]

  -- the checks on the id and for a part, the size, the count, and then the first live lot of the present layer that overlaps
  abbrev pub row_register : {S : Type 0} → StateOf S → Label → List Part → Walk W Reply
  row_register s x ps = check (and_then (check_new s x) (refuse_if (length ps == 0) empty)) do
    check_size (parts_under_lots s.lots + length ps) most_kept_parts
    tester.count (count_with_each near_pair ps (lot_parts (present_lots s)))
    found ← first_overlapped ps (present_lots s)
    check (option_map overlaps found) (pass (accepted (lots_replaced [] (new_lot s.layer x ps [] ∷ []))))

-- the rule refuses at the first lot of a list that overlaps the set; without one, the rest of the rule decides
abbrev pub refused_at_overlap : List (Lot Shape) → Shape → Rule → Rule
refused_at_overlap [] a rest = rest
refused_at_overlap (l ∷ ls) a rest = refused_where (Overlaps l.set a) (overlaps l.id) (refused_at_overlap ls a rest)

-- the rule: a new id, a set with a member, and no live lot of the present layer that overlaps
abbrev pub rule_register : State → Label → Shape → Rule
rule_register s x a = names_then (check_new s x) (refused_where (IsEmpty a) empty (refused_at_overlap (present_lots s) a accepts))

-- the definition of register
abbrev pub register_definition : Definition (signature register_verb)
register_definition = record {
  may_meet_limit = true;
  row = λ t s (x, (e, end)). with_form t (parts_in s) e λ ps. row_register t s x ps;
  rule = λ s formed (x, (e, end)). rule_register s x (set_of s e);
  change = λ s (x, (e, end)). lots_replaced [] (lot_of_set s.layer x (set_of s e) [] ∷ []);
}
