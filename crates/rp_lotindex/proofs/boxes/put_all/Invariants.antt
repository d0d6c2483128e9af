use Rattle.std.proofs.Common.{[], ◌∷◌, take}
use Rattle.rp_lotindex.specs.Indexed.{all_moved, ArePut}
use Rattle.rp_lotindex.proofs.boxes.put_all.Given as goal

-- the boxes so far were put in
abbrev pub invariant-loop-number : goal.invariant-loop-number
invariant-loop-number g l = ArePut l.fn.index l.index l.place (take l.number (all_moved (g.B.Bounded.boxes l.boxes)) ∷ [])
