use Rattle.std.proofs.Common.{[], sym, subst, rules}
use Rattle.rp_parcels.specs.Kept.{AreSound}
use Rattle.rp_parcels.proofs.parcels.Parcels.new.Goals as goal

no_lots : AreSound []
no_lots = search rules

pub invariant_of-result : goal.invariant_of-result
invariant_of-result c = subst AreSound (sym c.new.ensures) no_lots
