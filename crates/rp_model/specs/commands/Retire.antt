-- retire ID: ends a lot.
use Rattle.std.specs.Prelude.{false, [], ◌∷◌}
use Rattle.rp_language.specs.Expression.{signature, retire_verb}
use Rattle.rp_language.specs.Name.{Label}
use Rattle.rp_semantics.specs.Walk.{Walk, pass}
use Rattle.rp_model.specs.commands.Checks.{check_live}
use Rattle.rp_model.specs.commands.Definition.{Definition}
use Rattle.rp_model.specs.commands.Reply.{Reply, accepted, check}
use Rattle.rp_model.specs.commands.Rules.{names_then, accepts}
use Rattle.rp_model.specs.states.State.{StateOf, lots_replaced}

-- the row: a live lot ends
abbrev pub row_retire : {S W : Type 0} → StateOf S → Label → Walk W Reply
row_retire s x = check (check_live s x) (pass (accepted (lots_replaced (x ∷ []) [])))

-- the definition of retire
abbrev pub retire_definition : Definition (signature retire_verb)
retire_definition = record {
  may_meet_limit = false;
  row = λ t s (x, end). row_retire s x;
  rule = λ s formed (x, end). names_then (check_live s x) accepts;
  change = λ s (x, end). lots_replaced (x ∷ []) [];
}
