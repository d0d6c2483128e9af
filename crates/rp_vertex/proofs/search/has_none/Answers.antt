use Rattle.rp_vertex.proofs.Unwanted.{none_cut_off, none_with_one}
use Rattle.rp_vertex.proofs.search.has_none.Goals as goal

pub returns-then-is_passed_over : goal.returns-then-is_passed_over
returns-then-is_passed_over c is = none_with_one c.args.wanted c.args.system.now c.args.f.now c.args.others.now (c.is_passed_over.ensures c.if-is_passed_over.true)

pub returns-else-is_passed_over : goal.returns-else-is_passed_over
returns-else-is_passed_over c is = none_cut_off c.args.wanted c.args.system.now c.args.f.now c.args.others.now (c.is_left_out.ensures is)
