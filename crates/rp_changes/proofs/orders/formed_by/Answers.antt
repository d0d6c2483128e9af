use Rattle.std.proofs.Common.{subst}
use Rattle.rp_answer.specs.Replies.{GoesOn, row_of_form}
use Rattle.rp_command.specs.Views.{expression_of}
use Rattle.rp_changes.proofs.orders.formed_by.Goals as goal

pub returns-clause-goes_on : goal.returns-clause-goes_on
returns-clause-goes_on g c next =
    subst (λ m. GoesOn g.T.Oracle.parts_of c.row_form.result c.row_form.new.tests next (row_of_form g.T.Oracle.tester m (expression_of c.args.region.now) next c.args.tests.now)) c.keep_meaning.ensures (c.row_form.ensures.goes_on next)
