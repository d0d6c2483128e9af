use Rattle.std.proofs.Common.{◌≡◌, ◌+◌, ◌-◌, length, map, take, drop, ap, ◌∙◌, arith, subst}
use Rattle.std.proofs.lemmas.List.{length-drop, take_rest}
use Rattle.std.proofs.lemmas.Result.{err_from_is_err_and}
use Rattle.std.specs.List.{AllByRecursion}
use Rattle.rp_semantics.specs.Pieces.{numbered_from, links_with_part, links_among}
use Rattle.rp_oracle.proofs.Left.{next_left, stop_left}
use Rattle.rp_unionfind.specs.Lists.{IsWithin}
use Rattle.rp_eval.proofs.Linked.{part_left}
use Rattle.rp_eval.proofs.contacts.links_among.Goals as goal

pub returns-in_err-links_with_part-clause-comes : goal.returns-in_err-links_with_part-clause-comes
returns-in_err-links_with_part-clause-comes g c =
    let p = err_from_is_err_and c.from_residual.result c.from_residual.ensures.1 in
    let tester = g.T.Oracle.tester in
    let seen = g.T.Oracle.seen in
    let i = c.loop-place.place in
    let found = c.loop-place.links.items in
    let parts = c.args.parts.now in
    let later = take (length parts - (i + 1)) (drop (i + 1) parts) in
    let rest = numbered_from (i + 1 + 1) (map seen (drop (i + 1) parts)) in
    rw (p.1, p.2)
    (stop_left (links_with_part tester found (i + 1, seen c.index-parts-place.result) (numbered_from (i + 1 + 1) (map seen later))) (λ more. links_among tester more rest)
    (part_left tester seen found parts i c.index-parts-place.result later (take_rest parts (i + 1)) c.loop-place-test.true c.index-parts-place.is c.loop-place.invariant.0)
    c.in_err-links_with_part.field-0.0 c.links_with_part.new.tests c.in_err-links_with_part.ensures.comes)

pub loop-place-preserved : goal.loop-place-preserved
loop-place-preserved g c =
    let tester = g.T.Oracle.tester in
    let seen = g.T.Oracle.seen in
    let i = c.loop-place.place in
    let found = c.loop-place.links.items in
    let parts = c.args.parts.now in
    let later = take (length parts - (i + 1)) (drop (i + 1) parts) in
    let rest = numbered_from (i + 1 + 1) (map seen (drop (i + 1) parts)) in
    let h = c.loop-place-test.true in
    let size = ap length (take_rest parts (i + 1)) ∙ length-drop (i + 1) parts in
    let all : i + 1 + length later ≡ length parts = omega (arith, size, h) in (
      next_left (links_with_part tester found (i + 1, seen c.index-parts-place.result) (numbered_from (i + 1 + 1) (map seen later))) (λ more. links_among tester more rest)
          (part_left tester seen found parts i c.index-parts-place.result later (take_rest parts (i + 1)) h c.index-parts-place.is c.loop-place.invariant.0) c.in_ok-links_with_part.ensures.comes,
      subst (λ n. AllByRecursion (IsWithin n) c.links_with_part.new.links.items) all c.in_ok-links_with_part.ensures.within,
    )
