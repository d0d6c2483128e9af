use Rattle.std.proofs.Common.{take}
use Rattle.rp_history.specs.Pending.{AddsPlaces}
use Rattle.rp_history.proofs.lineage.add_places.Given as goal

-- the places of the lots with the ids so far were added
abbrev pub invariant-loop-id : goal.invariant-loop-id
invariant-loop-id l = AddsPlaces (take l.id-index l.ids) l.history l.fn.places.keys l.places.keys
