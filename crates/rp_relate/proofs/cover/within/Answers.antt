use Rattle.std.specs.Prelude.{◌↔◌, IsTrue}
use Rattle.rp_geometry.specs.sets.Shape.{shape_of_parts}
use Rattle.rp_geometry.specs.sets.Sets.{IsWithin}
use Rattle.rp_semantics.specs.Walk.{first_tester}
use Rattle.rp_semantics.specs.Compare.{is_covered}
use Rattle.rp_eval.proofs.Appended.{covered_appended}
use Rattle.rp_relate.proofs.Covered.{made_right, within_right}
use Rattle.rp_relate.proofs.Taken.{taken_over}
use Rattle.rp_relate.proofs.cover.within.Goals as goal

pub returns-clause-makes : goal.returns-clause-makes
returns-clause-makes c =
    taken_over (λ is_so. is_so) (is_covered first_tester c.args.a.now c.args.b.now) c.within-is_so.result c.take_over.result c.args.work.now c.fresh-walked.result c.within-is_so.new.tests c.take_over.new.self
    (covered_appended c.args.a.now c.args.b.now) c.fresh-walked.ensures c.within-is_so.ensures c.take_over.ensures

pub returns-clause-right : goal.returns-clause-right
returns-clause-right c =
    made_right (λ is_so. IsTrue is_so ↔ IsWithin (shape_of_parts c.args.a.now) (shape_of_parts c.args.b.now)) (is_covered first_tester c.args.a.now c.args.b.now) c.take_over.result c.args.work.now c.take_over.new.self (returns-clause-makes c) (within_right c.args.a.now c.args.b.now c.args.work.now c.parts.ensures.kept c.parts-2.ensures.kept)
