use Rattle.std.proofs.Common.{◌≡◌, length, take}
use Rattle.rp_access.specs.Laws.{AreLinksOf}
use Rattle.rp_access.proofs.links.Links.from_pairs.Given as goal

-- the links of the pairs so far
abbrev pub invariant-loop-first : goal.invariant-loop-first
invariant-loop-first l = (length l.links ≡ l.n) × AreLinksOf l.links (take l.first-index l.pairs)
