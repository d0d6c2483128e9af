-- layer NAME: the layer in which lots are registered from now on.
use Rattle.std.specs.Prelude.{false}
use Rattle.rp_language.specs.Expression.{signature, layer_verb}
use Rattle.rp_semantics.specs.Walk.{pass}
use Rattle.rp_model.specs.commands.Definition.{Definition}
use Rattle.rp_model.specs.commands.Reply.{accepted}
use Rattle.rp_model.specs.commands.Rules.{accepts}
use Rattle.rp_model.specs.states.State.{layer_changed}

-- the definition of layer
abbrev pub layer_definition : Definition (signature layer_verb)
layer_definition = record {
  may_meet_limit = false;
  row = λ t s (y, end). pass (accepted (layer_changed y));
  rule = λ s formed (y, end). accepts;
  change = λ s (y, end). layer_changed y;
}
