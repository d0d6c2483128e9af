use Rattle.std.proofs.Common.{◌∙◌}
use Rattle.std.proofs.lemmas.Result.{IfOk-weaker}
use Rattle.rp_contacts.specs.Meets.{pair_of}
use Rattle.rp_regionlots.specs.Shown.{shown}
use Rattle.rp_regionlots.proofs.Items.{all_meanings}
use Rattle.rp_regionlots.proofs.halves.judge_pairs.Goals as goal

pub returns : goal.returns
returns g c = IfOk-weaker c.judge_all.result _ _ (λ all e. e ∙ all_meanings (shown c.args.reach c.args.forms.now) (pair_of 0 0) c.args.pairs.now) c.judge_all.ensures
