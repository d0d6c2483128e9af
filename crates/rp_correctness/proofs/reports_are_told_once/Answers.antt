use Rattle.rp_correctness.proofs.ToldOnce.{reports_are_told_once_spec}
use Rattle.rp_correctness.proofs.reports_are_told_once.Goals as goal

pub returns : goal.returns
returns c = reports_are_told_once_spec
