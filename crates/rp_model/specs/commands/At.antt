-- at POINT: the lot that has a point.
use Rattle.std.specs.Prelude.{true, false, List, [], ◌∷◌}
use Rattle.rp_geometry.specs.Geometry.{RationalPoint}
use Rattle.rp_geometry.specs.sets.Shape.{Shape, is_member}
use Rattle.rp_language.specs.Expression.{signature, at_verb}
use Rattle.rp_semantics.specs.Walk.{pass}
use Rattle.rp_model.specs.commands.Definition.{Definition}
use Rattle.rp_model.specs.commands.Parts.{is_in_parts}
use Rattle.rp_model.specs.commands.Reply.{reply}
use Rattle.rp_model.specs.commands.Rules.{Rule, answers}
use Rattle.rp_model.specs.commands.Verdict.{Verdict}
use Rattle.rp_model.specs.states.State.{Lot, present_lots, nothing_changes}

-- the verdict of the first lot with a part that has the point; nobody if there is none
abbrev pub owner_line : {S : Type 0} → List (Lot S) → RationalPoint → Verdict
owner_line [] p = Verdict.nobody
owner_line (l ∷ ls) p = elim (is_in_parts l.parts p) [ true ↦ Verdict.parcel l.id | false ↦ owner_line ls p ]

-- the rule: the first lot of the list whose set has the point; nobody if there is none
abbrev pub parcel_at : List (Lot Shape) → RationalPoint → Rule
parcel_at [] p = answers (Verdict.nobody ∷ [])
parcel_at (l ∷ ls) p = elim (is_member l.set p) [ true ↦ answers (Verdict.parcel l.id ∷ []) | false ↦ parcel_at ls p ]

-- the definition of at
abbrev pub at_definition : Definition (signature at_verb)
at_definition = record {
  may_meet_limit = false;
  row = λ t s (p, end). pass (reply (owner_line (present_lots s) p));
  rule = λ s formed (p, end). parcel_at (present_lots s) p;
  change = λ s os. nothing_changes;
}
