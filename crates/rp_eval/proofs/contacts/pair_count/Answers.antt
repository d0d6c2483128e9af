use Rattle.rp_eval.proofs.Linked.{half_product}
use Rattle.rp_eval.proofs.contacts.pair_count.Goals as goal

pub returns-else-count-eq0 : goal.returns-else-count-eq0
returns-else-count-eq0 c pairs e = half_product c.args.count pairs e c.if-count-eq0.false
