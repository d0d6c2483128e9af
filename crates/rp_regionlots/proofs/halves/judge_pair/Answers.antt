use Rattle.std.proofs.Common.{subst}
use Rattle.rp_region.specs.Makes.{IsFaultOf}
use Rattle.rp_regionlots.specs.Shown.{pair_test}
use Rattle.rp_regionlots.proofs.Framed.{never_limited}
use Rattle.rp_regionlots.proofs.halves.judge_pair.Goals as goal

pub unreachable-requires : goal.unreachable-requires
unreachable-requires c =
    let ps = c.index-forms-pair.result in
    let qs = c.index-forms-pair-2.result in
    never_limited c.args.reach ps qs c.new-work.result c.do_meet.new.work
    (subst (λ e. IsFaultOf e c.new-work.result c.do_meet.new.work (pair_test c.args.reach ps qs)) c.in-Err-Limit.field-0-is c.in-Err-Limit.ensures)
