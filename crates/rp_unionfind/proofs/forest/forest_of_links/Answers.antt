use Rattle.rp_unionfind.proofs.Trees.{next_joined}
use Rattle.rp_unionfind.proofs.forest.forest_of_links.Goals as goal

pub loop-link-preserved : goal.loop-link-preserved
loop-link-preserved c =
    next_joined c.args.links.now c.args.count c.loop-link.link-index c.deref_mut.result.now c.join.new.parents c.loop-link.parents.items c.loop-link.parents.len c.requires.within c.loop-link-test.true c.deref_mut.ensures.value c.loop-link.invariant
    c.join.auto.parents c.loop-link.parents.ok.0 c.join.ensures.joined
