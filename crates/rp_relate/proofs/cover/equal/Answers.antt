use Rattle.std.specs.Prelude.{◌↔◌, IsTrue}
use Rattle.rp_geometry.specs.sets.Shape.{shape_of_parts}
use Rattle.rp_geometry.specs.sets.Sets.{SameMembers}
use Rattle.rp_eval.proofs.Appended.{equal_appended}
use Rattle.rp_relate.specs.Relations.{cover_each_other}
use Rattle.rp_relate.proofs.Covered.{made_right, equal_right}
use Rattle.rp_relate.proofs.Taken.{taken_over}
use Rattle.rp_relate.proofs.cover.equal.Goals as goal

pub returns-clause-makes : goal.returns-clause-makes
returns-clause-makes c =
    taken_over (λ is_so. is_so) (cover_each_other c.args.a.now c.args.b.now) c.equal-is_so.result c.take_over.result c.args.work.now c.fresh-walked.result c.equal-is_so.new.tests c.take_over.new.self
    (equal_appended c.args.a.now c.args.b.now) c.fresh-walked.ensures c.equal-is_so.ensures c.take_over.ensures

pub returns-clause-right : goal.returns-clause-right
returns-clause-right c =
    made_right (λ is_so. IsTrue is_so ↔ SameMembers (shape_of_parts c.args.a.now) (shape_of_parts c.args.b.now)) (cover_each_other c.args.a.now c.args.b.now) c.take_over.result c.args.work.now c.take_over.new.self (returns-clause-makes c) (equal_right c.args.a.now c.args.b.now c.args.work.now c.parts.ensures.kept c.parts-2.ensures.kept)
