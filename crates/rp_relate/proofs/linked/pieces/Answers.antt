use Rattle.std.specs.Prelude.{◌≤◌, length}
use Rattle.rp_geometry.specs.parts.Parts.{most_parts}
use Rattle.rp_unionfind.specs.Lists.{numbers_of}
use Rattle.rp_semantics.specs.Pieces.{pieces_of_parts}
use Rattle.rp_semantics.specs.Walk.{first_tester}
use Rattle.rp_eval.proofs.Appended.{pieces_appended}
use Rattle.rp_relate.proofs.Pieced.{pieces_right, ok_taken}
use Rattle.rp_relate.proofs.Taken.{taken_over}
use Rattle.rp_relate.proofs.linked.pieces.Goals as goal

pub returns-clause-makes : goal.returns-clause-makes
returns-clause-makes c =
    let ps = c.args.region.now in
    taken_over numbers_of (pieces_of_parts first_tester ps) c.pieces-pieces.result c.take_over.result c.args.work.now c.fresh-walked.result c.pieces-pieces.new.tests c.take_over.new.self (pieces_appended ps) c.fresh-walked.ensures c.pieces-pieces.ensures.comes c.take_over.ensures

pub returns-clause-right : goal.returns-clause-right
returns-clause-right c = pieces_right numbers_of c.args.region.now c.take_over.result c.args.work.now c.take_over.new.self c.parts.ensures.kept (returns-clause-makes c)

pub returns-clause-few : goal.returns-clause-few
returns-clause-few c = ok_taken (λ list. length list.items ≤ most_parts) c.pieces-pieces.result c.take_over.result c.args.work.now c.pieces-pieces.new.tests c.take_over.new.self c.take_over.ensures c.pieces-pieces.ensures.few
