use Rattle.std.proofs.Common.{◌<◌, ◌^◌, arith}
use Rattle.rp_access.proofs.Joined.{no_links}
use Rattle.rp_access.proofs.links.Links.new.Goals as goal

pub invariant_of-result : goal.invariant_of-result
invariant_of-result c = let small : c.args.n < 2 ^ 32 = c.ranges.n.fits in no_links c.loop.counter (omega arith) c.loop.lists.items c.loop.invariant
