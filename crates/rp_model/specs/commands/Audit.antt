-- audit: no two live lots of one layer share a point.
use Rattle.std.specs.Prelude.{ℕ, ◌+◌, Bool, true, false, List, [], ◌∷◌, length}
use Rattle.rp_geometry.specs.sets.Shape.{Part}
use Rattle.rp_language.specs.Expression.{signature, audit_verb}
use Rattle.rp_semantics.specs.Form.{common_nearby, near_pair}
use Rattle.rp_semantics.specs.Walk.{Walk, pass, stop, taken_wrong, ◌>>=◌, ◌>>◌, Tester}
use Rattle.rp_model.specs.commands.Definition.{Definition}
use Rattle.rp_model.specs.commands.Parts.{count_with_each, lot_parts}
use Rattle.rp_model.specs.commands.Reply.{Reply, reply}
use Rattle.rp_model.specs.commands.Rules.{answers}
use Rattle.rp_model.specs.commands.Verdict.{Verdict}
use Rattle.rp_model.specs.states.State.{Lot, StateOf, live_lots, lots_of_layer, nothing_changes}

-- the number of pairs of parts, of each two lots of one layer, that pass a choice
abbrev pub count_in_layers : {S : Type 0} → (Part → Part → Bool) → List (Lot S) → ℕ
count_in_layers chosen [] = 0
count_in_layers chosen (l ∷ ls) = count_with_each chosen l.parts (lot_parts (lots_of_layer l.layer ls)) + count_in_layers chosen ls

module _ {W : Type 0} (tester : Tester W) where
  -- tests that the parts share no member with any of the lists of parts; a common member stops the walk, as a wrong line of the report
  abbrev pub all_apart_from : List Part → List (List Part) → Walk W (Unit {0})
  all_apart_from ps [] = pass tt
  all_apart_from ps (qs ∷ lists) = do
    found ← common_nearby tester ps qs
    elim found [ true ↦ stop taken_wrong | false ↦ all_apart_from ps lists ]

  -- tests that each two lots of one layer share no member
  abbrev pub all_apart : {S : Type 0} → List (Lot S) → Walk W (Unit {0})
  all_apart [] = pass tt
  all_apart (l ∷ ls) = do
    all_apart_from l.parts (lot_parts (lots_of_layer l.layer ls))
    all_apart ls

  -- the count, and the tests that each two live lots of one layer share no member
  abbrev pub row_audit : {S : Type 0} → StateOf S → Walk W Reply
  row_audit s = do
    tester.count (count_in_layers near_pair (live_lots s.lots))
    all_apart (live_lots s.lots)
    pass (reply (Verdict.clear (length (live_lots s.lots))))

-- the definition of audit
abbrev pub audit_definition : Definition (signature audit_verb)
audit_definition = record {
  may_meet_limit = true;
  row = λ t s end. row_audit t s;
  rule = λ s formed end. answers (Verdict.clear (length (live_lots s.lots)) ∷ []);
  change = λ s os. nothing_changes;
}
