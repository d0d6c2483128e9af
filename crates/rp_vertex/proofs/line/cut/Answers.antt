use Rattle.std.proofs.Common.{ℤ, pos, ◌<ℤ◌, subst, arith}
use Rattle.std.proofs.lemmas.Int.{ints}
use Rattle.rp_vertex.proofs.Span.{nothing_left}
use Rattle.rp_vertex.proofs.line.cut.Goals as goal

pub returns-then-is_two_out : goal.returns-then-is_two_out
returns-then-is_two_out c = λ system listed k.
    let one : c.side-is_one_out.result <ℤ pos 0 = omega (arith, ints) in
    let two : c.side-is_two_out.result <ℤ pos 0 = omega (arith, ints) in
    nothing_left system c.args.pair.now c.args.span.now c.args.h.now listed k
    (subst (λ (v : ℤ). v <ℤ pos 0) c.side-is_one_out.ensures one)
    (subst (λ (v : ℤ). v <ℤ pos 0) c.side-is_two_out.ensures two)
