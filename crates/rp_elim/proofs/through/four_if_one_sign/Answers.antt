use Rattle.std.proofs.Common.{sym, subst}
use Rattle.rp_elim.specs.Sides.{ThreeHalfSpaces, CannotRefute}
use Rattle.rp_elim.proofs.Unfit.{none_of_four}
use Rattle.rp_elim.proofs.through.four_if_one_sign.Goals as goal

pub returns-then-not-may_refute_last : goal.returns-then-not-may_refute_last
returns-then-not-may_refute_last c =
    let strict = c.args.strict in
    let r = c.args.r.now in
    let unfit = subst (λ (t : ThreeHalfSpaces). CannotRefute strict t.first t.second t.third r.half) c.requires (c.may_refute_last.ensures c.if-not-may_refute_last.true) in
    sym (none_of_four strict c.args.k.now c.args.p.now c.args.q.now r unfit)
