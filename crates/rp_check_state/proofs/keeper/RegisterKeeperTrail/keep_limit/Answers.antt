use Rattle.rp_check_state.proofs.Limits.{never_many}
use Rattle.rp_check_state.proofs.keeper.RegisterKeeperTrail.keep_limit.Goals as goal

pub returns : goal.returns
returns c = never_many
