-- let NAME = EXPRESSION: names a region.
use Rattle.std.specs.Prelude.{◌+◌, true, List, [], length}
use Rattle.rp_geometry.specs.sets.Shape.{Part}
use Rattle.rp_language.specs.Expression.{signature, let_verb}
use Rattle.rp_language.specs.Name.{Label}
use Rattle.rp_semantics.specs.Walk.{Walk, pass, ◌>>◌}
use Rattle.rp_model.specs.commands.Checks.{check_name}
use Rattle.rp_model.specs.commands.Definition.{Definition, with_form}
use Rattle.rp_model.specs.commands.Reply.{Reply, accepted, check, check_size}
use Rattle.rp_model.specs.commands.Rules.{names_then, accepts}
use Rattle.rp_model.specs.commands.Sets.{set_of}
use Rattle.rp_model.specs.states.State.{most_kept_parts, most_names, StateOf, parts_in, parts_under_names, name_added}

-- the check on the name, the two sizes; then the form is stored under the name
abbrev pub row_define : {S W : Type 0} → StateOf S → Label → List Part → Walk W Reply
row_define s x ps = check (check_name s x) do
  check_size (length s.names + 1) most_names
  check_size (parts_under_names s.names + length ps) most_kept_parts
  pass (accepted (name_added (record { name = x; set = tt; parts = ps })))

-- the definition of let
abbrev pub let_definition : Definition (signature let_verb)
let_definition = record {
  may_meet_limit = true;
  row = λ t s (x, (u, (e, end))). with_form t (parts_in s) e λ ps. row_define s x ps;
  rule = λ s formed (x, (u, (e, end))). names_then (check_name s x) accepts;
  change = λ s (x, (u, (e, end))). name_added (record { name = x; set = set_of s e; parts = [] });
}
