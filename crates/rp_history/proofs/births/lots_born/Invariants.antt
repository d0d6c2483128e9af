use Rattle.std.proofs.Common.{◌≡◌, map, take}
use Rattle.rp_model.specs.states.State.{born_at}
use Rattle.rp_history.specs.Lots.{lot_of, new_lot_of}
use Rattle.rp_history.proofs.births.lots_born.Given as goal

-- as many lots were made as births were looked at
abbrev pub invariant-loop-birth : goal.invariant-loop-birth
invariant-loop-birth l = map lot_of l.born.items ≡ map (born_at l.line) (map new_lot_of (take l.birth-index l.births))
