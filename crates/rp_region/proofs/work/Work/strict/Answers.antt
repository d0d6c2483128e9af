use Rattle.std.proofs.Common.{◌≡◌, List, ◌∙◌, subst}
use Rattle.std.specs.Prelude.{◌↔◌, is_some, IfOk, IsNone}
use Rattle.rp_geometry.specs.Geometry.{HalfSpace}
use Rattle.rp_geometry.specs.sets.Shape.{shape_of_cell}
use Rattle.rp_geometry.specs.sets.Sets.{IsEmpty}
use Rattle.rp_geometry.specs.searches.Vertex.{first_inside}
use Rattle.rp_semantics.specs.Walk.{strict_test}
use Rattle.rp_region.specs.Makes.{op_result, Makes}
use Rattle.rp_region.proofs.work.Work.strict.Goals as goal

pub returns-clause-makes : goal.returns-clause-makes
returns-clause-makes c =
    subst (λ (cell : List HalfSpace). Makes is_some (op_result c.strict_test.result) c.args.self.now c.strict_test.new.self (strict_test cell)) (c.as_slice.ensures.value ∙ c.joined.ensures) c.strict_test.ensures.makes

pub returns-clause-first : goal.returns-clause-first
returns-clause-first c = subst (λ (cell : List HalfSpace). IfOk c.strict_test.result (λ o. o ≡ first_inside cell)) (c.as_slice.ensures.value ∙ c.joined.ensures) c.strict_test.ensures.first

pub returns-clause-none : goal.returns-clause-none
returns-clause-none c = subst (λ (cell : List HalfSpace). IfOk c.strict_test.result (λ o. IsNone o ↔ IsEmpty (shape_of_cell cell))) (c.as_slice.ensures.value ∙ c.joined.ensures) c.strict_test.ensures.none
