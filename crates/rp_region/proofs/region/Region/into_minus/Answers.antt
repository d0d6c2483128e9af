use Rattle.std.proofs.Common.{List, sym, ◌∙◌, subst}
use Rattle.rp_geometry.specs.sets.Shape.{Shape, Part, shape_of_parts}
use Rattle.rp_geometry.specs.parts.Parts.{IsPart, IsRegion, AreOf}
use Rattle.rp_semantics.specs.Walk.{first_tester}
use Rattle.rp_semantics.specs.Form.{subtract}
use Rattle.rp_region.proofs.Members.{left_of}
use Rattle.rp_region.proofs.region.Region.into_minus.Goals as goal

-- what was made is what is left of the first region outside the second
left_made : (c : goal.In_ok-parts) → AreOf IsPart (Shape.difference (shape_of_parts c.args.self) (shape_of_parts c.args.other.now)) c.in_ok-parts.parts.items
left_made c =
    left_of c.args.self c.args.other.now c.in_ok-parts.parts.items c.args.work.now c.subtract.new.work
    (subst (λ (ps : List Part). IsRegion ps) c.self.view_is c.self.invariant)
    (subst (λ (ps : List Part). IsRegion ps) c.other.view_is c.other.invariant)
    ((λ i. subtract first_tester (sym c.self.view_is i) (sym (c.items.ensures ∙ c.other.view_is) i) c.args.work.now) ∙ c.in_ok-parts.ensures)

pub invariant_of-result : goal.invariant_of-result
invariant_of-result c = (left_made c).all

pub returns-clause-members : goal.returns-clause-members
returns-clause-members c = (left_made c).members
