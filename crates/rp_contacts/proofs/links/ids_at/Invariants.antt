use Rattle.std.proofs.Common.{◌≡◌, map, take}
use Rattle.rp_history.specs.Lots.{lot_of}
use Rattle.rp_contacts.specs.Meets.{id_at}
use Rattle.rp_contacts.proofs.links.ids_at.Given as goal

-- the ids at the places so far
abbrev pub invariant-loop-place : goal.invariant-loop-place
invariant-loop-place l = l.ids.items ≡ map (id_at (map lot_of l.lots)) (take l.place-index l.places)
