-- list: the live lots.
use Rattle.std.specs.Prelude.{false, ◌∷◌, length}
use Rattle.rp_language.specs.Expression.{signature, list_verb}
use Rattle.rp_semantics.specs.Walk.{pass}
use Rattle.rp_model.specs.commands.Definition.{Definition}
use Rattle.rp_model.specs.commands.Reply.{reply_lines}
use Rattle.rp_model.specs.commands.Rules.{answers}
use Rattle.rp_model.specs.commands.Verdict.{Verdict, lot_lines}
use Rattle.rp_model.specs.states.State.{live_lots, nothing_changes}

-- the definition of list
abbrev pub list_definition : Definition (signature list_verb)
list_definition = record {
  may_meet_limit = false;
  row = λ t s end. pass (reply_lines (Verdict.parcels (length (live_lots s.lots)) ∷ lot_lines (live_lots s.lots)));
  rule = λ s formed end. answers (Verdict.parcels (length (live_lots s.lots)) ∷ lot_lines (live_lots s.lots));
  change = λ s os. nothing_changes;
}
