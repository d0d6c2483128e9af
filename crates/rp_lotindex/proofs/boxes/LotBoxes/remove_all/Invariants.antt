use Rattle.std.proofs.Common.{map, take}
use Rattle.rp_lotindex.specs.Indexed.{index_of, AreRemoved}
use Rattle.rp_lotindex.proofs.boxes.LotBoxes.remove_all.Given as goal

-- the boxes of the lots so far were taken out
abbrev pub invariant-loop-i : goal.invariant-loop-i
invariant-loop-i l = AreRemoved (index_of l.fn.self) (index_of l.self) l.first (take l.i (map (λ b. b.layer) l.births))
