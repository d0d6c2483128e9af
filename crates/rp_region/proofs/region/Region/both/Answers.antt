use Rattle.std.proofs.Common.{◌*◌, List, length, sym, ◌∙◌, subst}
use Rattle.rp_geometry.specs.sets.Shape.{Shape, Part, shape_of_parts}
use Rattle.rp_geometry.specs.parts.Parts.{IsPart, IsRegion, AreOf}
use Rattle.rp_semantics.specs.Walk.{count_tests, first_tester}
use Rattle.rp_semantics.specs.Form.{join_each}
use Rattle.rp_region.proofs.Members.{join_counted, joined_of}
use Rattle.rp_region.proofs.region.Region.both.Goals as goal

-- what was made is what the two regions have in common
common_made : (c : goal.In_ok-join_each) → AreOf IsPart (Shape.intersection (shape_of_parts c.args.self.now) (shape_of_parts c.args.other.now)) c.join_each.new.made.items
common_made c =
    joined_of c.args.self.now c.args.other.now c.join_each.new.made.items c.args.work.now c.join_each.new.work
    (subst (λ (ps : List Part). IsRegion ps) c.self.view_is c.self.invariant)
    (subst (λ (ps : List Part). IsRegion ps) c.other.view_is c.other.invariant)
    (join_counted c.args.self.now c.args.other.now c.join_each.new.made.items c.args.work.now c.count.new.self c.join_each.new.work
    ((λ i. count_tests (length (sym (c.items-first.ensures ∙ c.self.view_is) i) * length (sym (c.items-second.ensures ∙ c.other.view_is) i)) c.args.work.now) ∙ c.if-not-count.ensures)
    ((λ i. join_each first_tester (sym c.new-parts.ensures i) (sym (c.items-first.ensures ∙ c.self.view_is) i) (sym (c.items-second.ensures ∙ c.other.view_is) i) c.count.new.self) ∙ c.in_ok-join_each.ensures))

pub invariant_of-result : goal.invariant_of-result
invariant_of-result c = (common_made c).all

pub returns-clause-members : goal.returns-clause-members
returns-clause-members c = (common_made c).members
