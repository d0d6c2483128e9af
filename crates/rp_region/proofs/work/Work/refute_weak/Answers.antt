use Rattle.rp_region.proofs.Tested.{weak_refuted}
use Rattle.rp_region.proofs.work.Work.refute_weak.Goals as goal

pub returns : goal.returns
returns c = weak_refuted c.args.cell.now c.refute_weak.result c.tell.result c.args.self.now c.tell.new.self c.refute_weak.ensures.line c.tell.ensures.ok c.tell.ensures.err
