use Rattle.rp_history.proofs.Bare.{within_lots}
use Rattle.rp_history.proofs.Checked.{live_there, is_live_there, is_not_live}
use Rattle.rp_history.proofs.history.History.check_live.Goals as goal

pub returns-in-Some-clause-checks : goal.returns-in-Some-clause-checks
returns-in-Some-clause-checks c s same = is_live_there c.args.id s c.args.self.now same c.in-Some.ensures.distinct c.in-Some.place c.in-Some.ensures.within c.in-Some.ensures.lot

pub returns-in-Some-clause-lot : goal.returns-in-Some-clause-lot
returns-in-Some-clause-lot c s same = live_there c.args.id s c.args.self.now same c.in-Some.ensures.distinct c.in-Some.place c.in-Some.ensures.within c.in-Some.ensures.lot

pub returns-in-Some-clause-within : goal.returns-in-Some-clause-within
returns-in-Some-clause-within c s same = within_lots s.lots c.args.self.now same c.in-Some.place c.in-Some.ensures.within

pub returns-in-None-clause-checks : goal.returns-in-None-clause-checks
returns-in-None-clause-checks c s same = is_not_live c.args.id s c.args.self.now same c.in-None.ensures.lot
