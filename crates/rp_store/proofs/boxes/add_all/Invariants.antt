use Rattle.std.proofs.Common.{map, take}
use Rattle.rp_history.specs.Parts.{new_lots}
use Rattle.rp_lotindex.specs.Indexed.{index_of, AreBorn}
use Rattle.rp_store.proofs.boxes.add_all.Given as goal

-- the boxes of the lots so far were put in
abbrev pub invariant-loop-i : goal.invariant-loop-i
invariant-loop-i g l = AreBorn (index_of l.fn.boxes) (index_of l.boxes) l.first (take l.i (new_lots l.births (map g.F.Forms.parts_of l.forms)))
