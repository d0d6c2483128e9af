use Rattle.rp_history.proofs.Checked.{registered, not_registered}
use Rattle.rp_history.proofs.history.History.check_new.Goals as goal

pub returns-in-Some-clause-checks : goal.returns-in-Some-clause-checks
returns-in-Some-clause-checks c s same = registered c.args.id s c.args.self.now same _ c.in-Some.ensures.within c.in-Some.ensures.lot

pub returns-in-None-clause-checks : goal.returns-in-None-clause-checks
returns-in-None-clause-checks c s same = not_registered c.args.id s c.args.self.now same c.in-None.ensures.lot
