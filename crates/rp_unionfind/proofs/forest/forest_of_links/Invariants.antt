use Rattle.std.proofs.Common.{take}
use Rattle.rp_unionfind.specs.Forest.{IsForest}
use Rattle.rp_unionfind.proofs.forest.forest_of_links.Given as goal

-- the links so far have joined the trees
abbrev pub invariant-loop-link : goal.invariant-loop-link
invariant-loop-link l = IsForest (take l.link-index l.links) l.count l.parents.items
