-- asof LINE POINT: the lot that had a point after a line.
use Rattle.std.specs.Prelude.{false}
use Rattle.rp_language.specs.Expression.{signature, asof_verb}
use Rattle.rp_semantics.specs.Walk.{pass}
use Rattle.rp_model.specs.commands.At.{owner_line, parcel_at}
use Rattle.rp_model.specs.commands.Definition.{Definition}
use Rattle.rp_model.specs.commands.Reply.{reply}
use Rattle.rp_model.specs.states.State.{lots_of_layer, alive_after, nothing_changes}

-- the definition of asof
abbrev pub asof_definition : Definition (signature asof_verb)
asof_definition = record {
  may_meet_limit = false;
  row = λ t s (n, (p, end)). pass (reply (owner_line (lots_of_layer s.layer (alive_after n s.lots)) p));
  rule = λ s formed (n, (p, end)). parcel_at (lots_of_layer s.layer (alive_after n s.lots)) p;
  change = λ s os. nothing_changes;
}
