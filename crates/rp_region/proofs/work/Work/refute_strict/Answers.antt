use Rattle.rp_region.proofs.Tested.{strict_refuted}
use Rattle.rp_region.proofs.work.Work.refute_strict.Goals as goal

pub returns : goal.returns
returns c = strict_refuted c.args.cell.now c.refute_strict.result c.tell.result c.args.self.now c.tell.new.self c.refute_strict.ensures.line c.tell.ensures.ok c.tell.ensures.err
