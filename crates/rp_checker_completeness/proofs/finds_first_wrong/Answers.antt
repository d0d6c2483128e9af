use Rattle.rp_checker_completeness.proofs.FirstWrong.{finds_first_wrong_spec}
use Rattle.rp_checker_completeness.proofs.finds_first_wrong.Goals as goal

pub returns : goal.returns
returns c = finds_first_wrong_spec
