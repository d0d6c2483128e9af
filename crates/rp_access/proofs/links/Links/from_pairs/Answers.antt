use Rattle.std.proofs.Common.{get_or, ◌∙◌, subst, arith}
use Rattle.std.proofs.lemmas.List.{take_all}
use Rattle.rp_access.specs.Laws.{AreLinksOf}
use Rattle.rp_access.proofs.Computed.{pair_joined, below_at}
use Rattle.rp_access.proofs.links.Links.from_pairs.Goals as goal

pub loop-first-preserved : goal.loop-first-preserved
loop-first-preserved c =
    let pairs = c.args.pairs.now in
    let i = c.loop-first.first-index in
    let here = c.loop-first-test.true in
    let many = c.loop-first.invariant.0 in
    let joined = c.in_ok-join.ensures.ok in
    let p = get_or pairs i (0, 0) in
    let below = below_at c.args.n pairs c.requires i here in
    (joined.as_many ∙ many, pair_joined c.loop-first.links c.join.new.self pairs i p c.args.n here below.0 many below.1.0 below.1.1 joined c.loop-first.invariant.1)

pub returns-clause-links : goal.returns-clause-links
returns-clause-links c =
    let past = c.loop-first-test.false in
    subst (AreLinksOf c.loop-first.links) (take_all c.loop-first.first-index c.args.pairs.now (omega (arith, past))) c.loop-first.invariant.1
