use Rattle.std.proofs.Common.{◌++◌}
use Rattle.rp_region.proofs.Tested.{strict_refuted}
use Rattle.rp_region.proofs.work.Work.refute_strict_of.Goals as goal

pub returns-in-Some : goal.returns-in-Some
returns-in-Some c = strict_refuted (c.args.first.now.cell ++ c.args.second.now.cell) c.in-Some.terms c.tell.result c.args.self.now c.tell.new.self c.in-Some.ensures c.tell.ensures.ok c.tell.ensures.err
