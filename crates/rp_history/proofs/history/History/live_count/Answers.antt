use Rattle.std.proofs.Common.{length, None, ap, ◌∙◌, arith}
use Rattle.rp_history.proofs.Places.{live_counted, places_few}
use Rattle.rp_history.proofs.history.History.live_count.Goals as goal

pub returns-clause-value : goal.returns-clause-value
returns-clause-value c = ap length c.live.ensures ∙ live_counted 0 c.args.self.now

pub returns-clause-few : goal.returns-clause-few
returns-clause-few c = let same = ap length c.live.ensures in let few = places_few None 0 c.args.self.now in omega (arith, same, few)
