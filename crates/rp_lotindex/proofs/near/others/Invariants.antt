use Rattle.std.proofs.Common.{◌≡◌, filter, take}
use Rattle.rp_proximity.specs.Near.{is_other_at}
use Rattle.rp_lotindex.proofs.near.others.Given as goal

-- the places so far were looked at
abbrev pub invariant-loop-place : goal.invariant-loop-place
invariant-loop-place l = l.list.items ≡ filter (is_other_at l.layer l.id l.history) (take l.place-index l.places)
