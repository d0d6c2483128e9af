use Rattle.std.specs.Prelude.{◌↔◌, IsTrue}
use Rattle.rp_geometry.specs.sets.Shape.{shape_of_parts}
use Rattle.rp_geometry.specs.sets.Sets.{IsEmpty}
use Rattle.rp_semantics.specs.Walk.{first_tester}
use Rattle.rp_semantics.specs.Compare.{show_then_no}
use Rattle.rp_eval.proofs.Appended.{show_appended}
use Rattle.rp_relate.proofs.Covered.{made_right, empty_right}
use Rattle.rp_relate.proofs.Taken.{taken_over}
use Rattle.rp_relate.proofs.cover.is_empty.Goals as goal

pub returns-clause-makes : goal.returns-clause-makes
returns-clause-makes c =
    taken_over (λ is_so. is_so) (show_then_no first_tester c.args.region.now) c.is_empty-is_so.result c.take_over.result c.args.work.now c.fresh-walked.result c.is_empty-is_so.new.tests c.take_over.new.self
    (show_appended c.args.region.now) c.fresh-walked.ensures c.is_empty-is_so.ensures c.take_over.ensures

pub returns-clause-right : goal.returns-clause-right
returns-clause-right c =
    made_right (λ is_so. IsTrue is_so ↔ IsEmpty (shape_of_parts c.args.region.now)) (show_then_no first_tester c.args.region.now) c.take_over.result c.args.work.now c.take_over.new.self (returns-clause-makes c) (empty_right c.args.region.now c.args.work.now c.parts.ensures.kept)
