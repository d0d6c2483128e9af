use Rattle.std.proofs.Common.{List, ◌++◌, sym, ◌∙◌, subst}
use Rattle.rp_geometry.specs.sets.Shape.{Shape, Part, shape_of_parts}
use Rattle.rp_geometry.specs.sets.Sets.{SameMembers}
use Rattle.rp_forms.proofs.Alike.{parts_append, same_of_alike}
use Rattle.rp_region.proofs.region.Region.into_either.Goals as goal

pub returns-clause-members : goal.returns-clause-members
returns-clause-members c =
    subst (λ (ps : List Part). SameMembers (shape_of_parts ps) (Shape.union (shape_of_parts c.args.self) (shape_of_parts c.args.other)))
    (sym (c.in_ok-append.ensures.ok ∙ (λ i. c.self.view_is i ++ c.other.view_is i)))
    (same_of_alike (shape_of_parts (c.args.self ++ c.args.other)) (Shape.union (shape_of_parts c.args.self) (shape_of_parts c.args.other)) (λ p w i. parts_append c.args.self c.args.other p))
