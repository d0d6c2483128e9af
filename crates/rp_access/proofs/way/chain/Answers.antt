use Rattle.std.proofs.Common.{◌-◌, length, arith, ap, ◌∙◌}
use Rattle.rp_access.proofs.Ways.{links_below, stuck_as, goes_on_as, way_ends, read_entry}
use Rattle.rp_access.proofs.way.chain.Goals as goal

pub first_of_level-requires : goal.first_of_level-requires
first_of_level-requires c = links_below c.args.g.now c.linked_to.ensures.links (length c.deref.result.now) c.loop-left.at c.linked_to.result.now (ap length c.deref.ensures.value ∙ c.in_ok-levels.ensures.found.as_many) c.linked_to.ensures.value

pub returns-in_default-first_of_level : goal.returns-in_default-first_of_level
returns-in_default-first_of_level c =
    absurd (stuck_as c.args.g.now c.args.to c.in_ok-levels.levels.items c.args.from c.in-Some.level c.loop-left.route.items c.loop-left.at c.loop-left.left c.in_ok-levels.ensures.found c.in_ok-levels.ensures.passes c.loop-left.invariant
    (c.loop-left.left - 1) c.deref.result.now c.linked_to.result.now (omega (arith, c.loop-left-test.true)) c.deref.ensures.value c.linked_to.ensures.value c.in_default-first_of_level.ensures)

pub loop-left-preserved : goal.loop-left-preserved
loop-left-preserved c =
    goes_on_as c.args.g.now c.args.to c.in_ok-levels.levels.items c.args.from c.in-Some.level c.loop-left.route.items c.loop-left.at c.loop-left.left c.in_ok-levels.ensures.found c.in_ok-levels.ensures.passes c.loop-left.invariant c.linked_to.ensures.links
    (c.loop-left.left - 1) c.deref.result.now c.linked_to.result.now (omega (arith, c.loop-left-test.true)) c.deref.ensures.value c.linked_to.ensures.value c.in-Some-first_of_level.next c.push-in-loop-left.new.self.items c.in-Some-first_of_level.ensures c.in_ok-push-2.ensures.ok

pub returns : goal.returns
returns c =
    way_ends c.args.g.now c.args.to c.in_ok-levels.levels.items c.args.from c.in-Some.level c.loop-left.route.items c.loop-left.at c.loop-left.left c.in_ok-levels.ensures.found c.in_ok-levels.ensures.passes c.loop-left.invariant
    (read_entry c.in_ok-levels.levels.items c.args.from c.index.result.now (omega (arith, c.requires.from_below, c.in_ok-levels.ensures.found.as_many)) c.index.ensures ∙ c.in-Some.is)
    (omega (arith, c.loop-left-test.false))
