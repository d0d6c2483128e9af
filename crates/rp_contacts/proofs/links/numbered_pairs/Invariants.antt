use Rattle.std.proofs.Common.{◌≡◌, ◌++◌, map, length, drop}
use Rattle.std.specs.List.{AllByRecursion}
use Rattle.rp_contacts.specs.Numbers.{placed, AreBelow}
use Rattle.rp_contacts.proofs.links.numbered_pairs.Given as goal

-- the pairs still to come are left
abbrev pub invariant-loop-pair : goal.invariant-loop-pair
invariant-loop-pair l = record {
  left : map (placed l.places) l.made.items ++ drop l.pair-index l.pairs ≡ l.pairs;
  below : AllByRecursion (AreBelow (length l.places)) l.made.items;
}
