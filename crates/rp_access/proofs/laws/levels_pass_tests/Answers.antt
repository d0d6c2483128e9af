use Rattle.rp_access.proofs.Known.{levels_pass_tests_spec}
use Rattle.rp_access.proofs.laws.levels_pass_tests.Goals as goal

pub returns : goal.returns
returns c = levels_pass_tests_spec
