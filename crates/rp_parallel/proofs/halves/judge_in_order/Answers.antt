use Rattle.rp_parallel.proofs.Rows.{meanings_from-push}
use Rattle.rp_parallel.proofs.halves.judge_in_order.Goals as goal

pub loop-i-preserved : goal.loop-i-preserved
loop-i-preserved g c =
    let push = meanings_from-push (g.J.Judge.meaning c.args.judge.now) c.args.first c.loop-i.i c.loop-i.auto.i in
    let pushed = c.in_ok-push.ensures.items in
    let means = c.in_ok-judge.ensures in
    rw (push, pushed, means, c.loop-i.invariant)
