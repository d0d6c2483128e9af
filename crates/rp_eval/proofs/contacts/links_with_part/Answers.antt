use Rattle.std.proofs.Common.{ℕ, ◌+◌, length, map, drop, arith}
use Rattle.std.proofs.lemmas.Result.{err_from_is_err_and}
use Rattle.rp_geometry.specs.sets.Shape.{Part}
use Rattle.rp_semantics.specs.Pieces.{numbered_from, link_pair, links_with_part}
use Rattle.rp_oracle.proofs.Left.{next_left, stop_left}
use Rattle.rp_eval.proofs.Linked.{pair_left}
use Rattle.rp_eval.proofs.contacts.links_with_part.Goals as goal

pub returns-in_err-link_pair-clause-comes : goal.returns-in_err-link_pair-clause-comes
returns-in_err-link_pair-clause-comes g c =
    let p = err_from_is_err_and c.from_residual.result c.from_residual.ensures.1 in
    let tester = g.T.Oracle.tester in
    let seen = g.T.Oracle.seen in
    let part : ℕ × Part = (c.args.number, seen c.args.part.now) in
    let next = c.args.number + 1 in
    let i = c.loop-place.place in
    let rest = numbered_from (next + (i + 1)) (map seen (drop (i + 1) c.args.others.now)) in
    rw (p.1, p.2)
    (stop_left (link_pair tester c.loop-place.links.items part (next + i, seen c.index-others-place.result)) (λ more. links_with_part tester more part rest)
    (pair_left tester seen c.loop-place.links.items part c.args.others.now next i c.index-others-place.result c.loop-place-test.true c.index-others-place.is c.loop-place.invariant.0)
    c.in_err-link_pair.field-0.0 c.link_pair.new.tests c.in_err-link_pair.ensures.comes)

pub loop-place-preserved : goal.loop-place-preserved
loop-place-preserved g c =
    let tester = g.T.Oracle.tester in
    let seen = g.T.Oracle.seen in
    let part : ℕ × Part = (c.args.number, seen c.args.part.now) in
    let next = c.args.number + 1 in
    let i = c.loop-place.place in
    let rest = numbered_from (next + (i + 1)) (map seen (drop (i + 1) c.args.others.now)) in
    let h = c.loop-place-test.true in
    let first = c.requires.first in (
      next_left (link_pair tester c.loop-place.links.items part (next + i, seen c.index-others-place.result)) (λ more. links_with_part tester more part rest)
          (pair_left tester seen c.loop-place.links.items part c.args.others.now next i c.index-others-place.result h c.index-others-place.is c.loop-place.invariant.0) c.in_ok-link_pair.ensures.comes,
      c.in_ok-link_pair.ensures.within (c.args.number + length c.args.others.now) (first, omega arith, omega arith, omega (arith, h)) c.loop-place.invariant.1,
    )
