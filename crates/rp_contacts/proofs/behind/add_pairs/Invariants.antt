use Rattle.std.proofs.Common.{◌≡◌, ◌++◌, map, drop}
use Rattle.rp_contacts.specs.Meets.{pair_of}
use Rattle.rp_contacts.proofs.behind.add_pairs.Given as goal

-- the pairs with the others still to come are left
abbrev pub invariant-loop-second : goal.invariant-loop-second
invariant-loop-second l = l.pairs.items ++ map (pair_of l.first) (drop l.second-index l.others) ≡ l.fn.pairs.items ++ map (pair_of l.first) l.others
