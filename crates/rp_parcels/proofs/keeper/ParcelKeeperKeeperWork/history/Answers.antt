use Rattle.rp_parcels.proofs.Sizes.{all_short}
use Rattle.rp_parcels.proofs.keeper.ParcelKeeperKeeperWork.history.Goals as goal

pub returns-clause-short : goal.returns-clause-short
returns-clause-short c = all_short c.args.self.now.parcels.now c.history.ensures.sound
