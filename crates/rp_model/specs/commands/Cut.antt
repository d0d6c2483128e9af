-- cut ID EXPRESSION ID ID: cuts one lot into two.
use Rattle.std.specs.Prelude.{◌+◌, true, ◌==◌, List, [], ◌∷◌, length}
use Rattle.rp_geometry.specs.sets.Sets.{IsWithin, Overlaps}
use Rattle.rp_geometry.specs.sets.Shape.{Shape, Part}
use Rattle.rp_language.specs.Expression.{signature, cut_verb}
use Rattle.rp_language.specs.Name.{Label}
use Rattle.rp_semantics.specs.Form.{join, subtract}
use Rattle.rp_semantics.specs.Walk.{Walk, pass, ◌>>=◌, ◌>>◌, Tester}
use Rattle.rp_model.specs.commands.Checks.{refuse_if, check_cut}
use Rattle.rp_model.specs.commands.Definition.{Definition, with_form}
use Rattle.rp_model.specs.commands.Parts.{parts_with_id, new_lot}
use Rattle.rp_model.specs.commands.Reply.{Reply, accepted, check, check_size}
use Rattle.rp_model.specs.commands.Rules.{Rule, names_then, refused_where, accepts}
use Rattle.rp_model.specs.commands.Sets.{set_of, set_with_id, lot_of_set}
use Rattle.rp_model.specs.commands.Verdict.{empty_side}
use Rattle.rp_model.specs.states.State.{most_kept_parts, StateOf, layer_with_id, parts_in, parts_under_lots, lots_replaced, State}

module _ {W : Type 0} (tester : Tester W) where
  -- the checks on names, the inner side, the outer side, and the size
  abbrev pub row_cut : {S : Type 0} → StateOf S → Label → List Part → Label → Label → Walk W Reply
  row_cut s x ps first second = check (check_cut s x first second) do
    inner ← join tester (parts_with_id s x) ps
    check (refuse_if (length inner == 0) (empty_side 1)) do
      outer ← subtract tester (parts_with_id s x) ps
      check (refuse_if (length outer == 0) (empty_side 2)) do
        check_size (parts_under_lots s.lots + length inner + length outer) most_kept_parts
        pass (accepted (lots_replaced (x ∷ []) (new_lot (layer_with_id s x) first inner (x ∷ []) ∷ new_lot (layer_with_id s x) second outer (x ∷ []) ∷ [])))

-- the rule: the checks on names, the inner side, the outer side
abbrev pub rule_cut : State → Label → Shape → Label → Label → Rule
rule_cut s x a first second =
    names_then (check_cut s x first second)
    (refused_where (¬ Overlaps (set_with_id s x) a) (empty_side 1) (refused_where (IsWithin (set_with_id s x) a) (empty_side 2) accepts))

-- the definition of cut
abbrev pub cut_definition : Definition (signature cut_verb)
cut_definition = record {
  may_meet_limit = true;
  row = λ t s (x, (e, (first, (second, end)))). with_form t (parts_in s) e λ ps. row_cut t s x ps first second;
  rule = λ s formed (x, (e, (first, (second, end)))). rule_cut s x (set_of s e) first second;
  change = λ s (x, (e, (first, (second, end)))). lots_replaced (x ∷ [])
      (lot_of_set (layer_with_id s x) first (Shape.intersection (set_with_id s x) (set_of s e)) (x ∷ []) ∷ lot_of_set (layer_with_id s x) second (Shape.difference (set_with_id s x) (set_of s e)) (x ∷ []) ∷ []);
}
