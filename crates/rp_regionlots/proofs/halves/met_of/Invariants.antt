use Rattle.std.proofs.Common.{◌≡◌, ◌++◌, map, drop}
use Rattle.rp_regionlots.proofs.halves.met_of.Given as goal

-- the answers of the pairs still to come are left
abbrev pub invariant-loop-one : goal.invariant-loop-one
invariant-loop-one l = l.met.items ++ map (λ s. s.meets) (drop l.one-index l.all) ≡ map (λ s. s.meets) l.all
