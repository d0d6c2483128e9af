use Rattle.rp_regionlots.proofs.Limits.{too_many}
use Rattle.rp_machine.proofs.keeper.StateKeeperWork.keep_limit.Goals as goal

pub returns : goal.returns
returns c = too_many
