use Rattle.std.proofs.Common.{◌≡◌, List, [], ◌∷◌, ◌++◌, sym, ap, ◌∙◌, subst}
use Rattle.std.proofs.lemmas.Result.{err_from_is_err_and}
use Rattle.rp_geometry.specs.sets.Shape.{Part, shape_of_cell, shape_of_parts}
use Rattle.rp_geometry.specs.sets.Sets.{SameMembers}
use Rattle.rp_geometry.specs.parts.Parts.{IsPart, IsRegion}
use Rattle.rp_semantics.specs.Walk.{pass, part_test, first_tester}
use Rattle.rp_semantics.specs.Form.{made_part, parts_of_cell}
use Rattle.rp_semantics.specs.FormLaws.{IsMadeOf}
use Rattle.rp_region.proofs.Grows.{part_tells, pass_tells}
use Rattle.rp_region.proofs.Left.{all_left, next_left, given_up}
use Rattle.rp_region.proofs.Members.{region_made}
use Rattle.rp_region.proofs.region.Region.of_cell.Goals as goal
use Rattle.rp_region.proofs.region.Region.of_cell.Goals.{in-Some+in_ok-push, in_default}

pub returns-in_err-push-clause-makes : goal.returns-in_err-push-clause-makes
returns-in_err-push-clause-makes c =
    let p = err_from_is_err_and c.from_residual-in_err-push.result c.from_residual-in_err-push.ensures.1 in
    let cell = c.args.cell.now in
    let parts = made_part c.in_ok-part.field-0 in
    rw (p.1, p.2)
    (given_up (pass parts) (pass_tells parts)
    (next_left (part_test cell) (λ o. pass (made_part o)) (part_tells cell) (all_left c.args.work.now (parts_of_cell first_tester cell)) c.in_ok-part.ensures.makes))

-- the parts are those that the test has made
parts_made : (c : goal.Joined-branch-2) → c.match-branch-2.parts.items ≡ made_part c.in_ok-part.field-0
parts_made c = elim c.match-branch-2.branch [
  | in-Some+in_ok-push w ↦ (λ i. (w.parts-is i).items) ∙ w.in_ok-push.ensures.ok ∙ ap (λ ps. ps ++ w.in-Some.part ∷ []) c.new-parts.ensures ∙ sym (ap made_part w.in-Some.is)
  | in_default w ↦ (λ i. (w.parts-is i).items) ∙ c.new-parts.ensures ∙ sym (ap made_part w.in_default.is)
]

-- and it is of the cell
made_of : (c : goal.Joined-branch-2) → IsMadeOf IsPart c.args.cell.now c.in_ok-part.field-0
made_of c = c.in_ok-part.ensures.made

pub returns-clause-members : goal.returns-clause-members
returns-clause-members c = subst (λ (ps : List Part). SameMembers (shape_of_parts ps) (shape_of_cell c.args.cell.now)) (sym (parts_made c)) (made_of c).members

pub invariant_of-result : goal.invariant_of-result
invariant_of-result c = subst (λ (ps : List Part). IsRegion ps) (sym (parts_made c)) (region_made c.args.cell.now c.in_ok-part.field-0 (made_of c))
