use Rattle.std.proofs.Common.{◌≡◌, ◌++◌, drop}
use Rattle.rp_contacts.specs.Numbers.{links_met}
use Rattle.rp_contacts.proofs.links.met_pairs.Given as goal

-- the pairs still to come are left
abbrev pub invariant-loop-i : goal.invariant-loop-i
invariant-loop-i l = l.links.items ++ links_met (drop l.i l.pairs) (drop l.i l.met) ≡ links_met l.pairs l.met
