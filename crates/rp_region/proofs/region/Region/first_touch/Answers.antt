use Rattle.rp_region.proofs.Members.{touch_made, touch_where}
use Rattle.rp_region.proofs.region.Region.first_touch.Goals as goal

pub returns-clause-makes : goal.returns-clause-makes
returns-clause-makes c = touch_made c.args.near c.args.self.now c.args.other.now c.first_pair.result c.args.work.now c.first_pair.new.work c.first_pair.ensures.makes

pub returns-clause-found : goal.returns-clause-found
returns-clause-found c =
    touch_where c.args.near c.args.self.now c.args.other.now c.first_pair.result c.args.work.now c.first_pair.new.work c.first_pair.ensures.first c.first_pair.ensures.second (returns-clause-makes c)
