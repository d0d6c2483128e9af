-- member EXPRESSION POINT: whether a point is in a region.
use Rattle.std.specs.Prelude.{false}
use Rattle.rp_geometry.specs.sets.Shape.{is_member, IsMember}
use Rattle.rp_language.specs.Expression.{resolve_names, signature, member_verb}
use Rattle.rp_semantics.specs.Walk.{pass}
use Rattle.rp_model.specs.commands.Definition.{Definition}
use Rattle.rp_model.specs.commands.Parts.{shapes_of_parts}
use Rattle.rp_model.specs.commands.Reply.{yes_or_no}
use Rattle.rp_model.specs.commands.Rules.{yes_where}
use Rattle.rp_model.specs.commands.Sets.{set_of}
use Rattle.rp_model.specs.states.State.{parts_in, nothing_changes}

-- the definition of member
abbrev pub member_definition : Definition (signature member_verb)
member_definition = record {
  may_meet_limit = false;
  row = λ t s (e, (p, end)). pass (yes_or_no (is_member (resolve_names (shapes_of_parts (parts_in s)) e) p));
  rule = λ s formed (e, (p, end)). yes_where (IsMember (set_of s e) p);
  change = λ s os. nothing_changes;
}
