use Rattle.std.proofs.Common.{map, take}
use Rattle.rp_language.specs.Name.{is_among}
use Rattle.rp_history.specs.Parts.{lots_with_parts}
use Rattle.rp_lotindex.specs.Indexed.{index_of, AreSettled}
use Rattle.rp_store.proofs.settle.settle_all.Given as goal

-- the boxes of the lots with the ids so far were moved
abbrev pub invariant-loop-id : goal.invariant-loop-id
invariant-loop-id g l = AreSettled (lots_with_parts l.history (map g.F.Forms.parts_of l.forms)) (λ y. is_among y (take l.id-index l.ids)) (index_of l.fn.boxes) (index_of l.boxes)
