use Rattle.std.proofs.Common.{◌++◌, map}
use Rattle.std.specs.Vec.Iter.{into_iter_items}
use Rattle.rp_history.specs.Lots.{lot_of}
use Rattle.rp_history.proofs.Appended.{AreToCome}
use Rattle.rp_history.proofs.births.append.Given as goal

-- the lots that were not taken yet are still to come
abbrev pub invariant-loop-lot : goal.invariant-loop-lot
invariant-loop-lot l = AreToCome l.list.lots l.list.spare (into_iter_items l.lot-iterator) (l.fn.list.lots ++ map lot_of l.fn.born.items)
