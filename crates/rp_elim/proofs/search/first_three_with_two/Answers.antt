use Rattle.std.proofs.Common.{sym}
use Rattle.rp_elim.proofs.Three.{none_with_dependent_two}
use Rattle.rp_elim.proofs.search.first_three_with_two.Goals as goal

pub returns-in-None : goal.returns-in-None
returns-in-None c = sym (none_with_dependent_two c.args.strict c.args.f.now c.args.g.now c.in-None.ensures c.args.hs.now)
