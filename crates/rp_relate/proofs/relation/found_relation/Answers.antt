use Rattle.rp_semantics.specs.Walk.{first_tester}
use Rattle.rp_semantics.specs.Compare.{relation_of_parts}
use Rattle.rp_eval.proofs.Appended.{relation_appended}
use Rattle.rp_eval.specs.Relations.{relation_of}
use Rattle.rp_relate.proofs.Taken.{taken_over}
use Rattle.rp_relate.proofs.relation.found_relation.Goals as goal

pub returns : goal.returns
returns c =
    taken_over relation_of (relation_of_parts first_tester c.args.a.now c.args.b.now) c.found_relation-relation.result c.take_over.result c.args.work.now c.fresh-walked.result c.found_relation-relation.new.tests c.take_over.new.self
    (relation_appended c.args.a.now c.args.b.now) c.fresh-walked.ensures c.found_relation-relation.ensures c.take_over.ensures
