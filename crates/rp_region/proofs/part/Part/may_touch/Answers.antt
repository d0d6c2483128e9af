use Rattle.std.proofs.Common.{sym, ◌∙◌, subst}
use Rattle.rp_geometry.specs.Geometry.{closed_boxes_meet}
use Rattle.rp_geometry.specs.sets.Shape.{Part}
use Rattle.rp_geometry.specs.parts.Parts.{IsPart}
use Rattle.rp_region.proofs.Apart.{no_common_point}
use Rattle.rp_region.proofs.part.Part.may_touch.Goals as goal

pub returns-clause-apart : goal.returns-clause-apart
returns-clause-apart c e =
    no_common_point c.args.self.now c.args.other.now (subst (λ (p : Part). IsPart p) c.self.view_is c.self.invariant) (subst (λ (p : Part). IsPart p) c.other.view_is c.other.invariant)
    ((λ i. closed_boxes_meet (sym c.self.view_is i).bounds (sym c.other.view_is i).bounds) ∙ sym c.meets_closed.ensures ∙ e)
