use Rattle.std.proofs.Common.{sym}
use Rattle.rp_vertex.proofs.Unwanted.{none_with_two}
use Rattle.rp_vertex.proofs.search.first_on_both.Goals as goal

pub returns-then-is_passed_over : goal.returns-then-is_passed_over
returns-then-is_passed_over c = sym (none_with_two c.args.wanted c.args.system.now c.args.f.now c.args.g.now c.args.others.now (c.is_passed_over.ensures c.if-is_passed_over.true))
