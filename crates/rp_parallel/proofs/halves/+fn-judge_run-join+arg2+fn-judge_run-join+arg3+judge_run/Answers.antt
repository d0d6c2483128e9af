use Rattle.std.proofs.Common.{◌≡◌, ◌+◌, ◌-◌, ◌/◌, ◌≤◌, arith}
use Rattle.std.proofs.lemmas.Result.{IfOk-at_ok}
use Rattle.rp_parallel.specs.Meanings.{meanings_from}
use Rattle.rp_parallel.proofs.Rows.{meanings_from-halves}
use Rattle.rp_parallel.proofs.halves.+fn-judge_run-join+arg2+fn-judge_run-join+arg3+judge_run.Goals as goal

pub returns : goal.returns
returns g t c =
    let first = c.args.first in
    let end = c.args.end in
    let middle = first + (end - first) / 2 in
    let meaning = g.J.Judge.meaning c.args.judge.now in
    let front : c.in_ok-outs.outs.items ≡ meanings_from meaning first (middle - first) = IfOk-at_ok (λ outs. outs.items ≡ meanings_from meaning first (middle - first)) c.in_ok-outs.was c.join-front.ensures.first in
    let back : c.in_ok-others.others.items ≡ meanings_from meaning middle (end - middle) = IfOk-at_ok (λ others. others.items ≡ meanings_from meaning middle (end - middle)) c.in_ok-others.was c.join-front.ensures.second in
    let before : first ≤ middle = omega arith in
    let after : middle ≤ end = omega arith in
    rw (c.in_ok-append.ensures.items, front, back) (meanings_from-halves meaning first middle end before after)
