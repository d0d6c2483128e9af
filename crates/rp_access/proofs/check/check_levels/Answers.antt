use Rattle.std.proofs.Common.{length, refl, arith}
use Rattle.rp_access.proofs.Checked.{at_as_made, not_at, last_test}
use Rattle.rp_access.proofs.Ways.{links_below}
use Rattle.rp_access.proofs.check.check_levels.Goals as goal

pub passes_at-requires : goal.passes_at-requires
passes_at-requires c = links_below c.args.g.now c.count-i-end.ensures.links (length c.args.levels.now) c.loop-i.i c.linked_to.result.now c.requires.as_many c.linked_to.ensures.value

pub returns-then-not-passes_at : goal.returns-then-not-passes_at
returns-then-not-passes_at c =
    not_at c.args.g.now c.args.to c.args.levels.now c.loop-i.i (omega (arith, c.loop-i-test.true, c.count-i-end.ensures.count))
    (λ p. c.if-not-passes_at.ensures.1 ((at_as_made c.args.g.now c.args.to c.args.levels.now c.loop-i.i _ _ c.linked_to.result.now refl c.linked_to.ensures.value (last_test c.loop-i.i c.args.to)).1 p))
