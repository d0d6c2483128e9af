use Rattle.rp_command.specs.Views.{expression_of}
use Rattle.rp_answer.proofs.ShortForms.{made_form_is_short}
use Rattle.rp_answer.proofs.form.short_form.Goals as goal

pub returns-clause-few : goal.returns-clause-few
returns-clause-few g c =
    made_form_is_short g.T.Oracle.tester (g.N.Named.meaning c.args.named.now) c.keep_short.ensures g.T.Oracle.parts_of (expression_of c.args.region.now) c.formed.result c.args.tests.now c.formed.new.tests c.formed.ensures
