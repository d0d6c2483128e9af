use Rattle.std.proofs.Common.{sym}
use Rattle.rp_elim.proofs.Unfit.{none_with_dependent}
use Rattle.rp_elim.proofs.search.first_four_with_three.Goals as goal

pub returns-in-None : goal.returns-in-None
returns-in-None c = sym (none_with_dependent c.args.strict c.args.ef.now.first c.args.ef.now.second c.args.g.now c.in-None.ensures c.args.hs.now)
