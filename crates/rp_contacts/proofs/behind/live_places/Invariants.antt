use Rattle.std.proofs.Common.{◌≡◌, filter, take}
use Rattle.rp_contacts.proofs.Paired.{is_asked_at}
use Rattle.rp_contacts.proofs.behind.live_places.Given as goal

-- the places so far were looked at
abbrev pub invariant-loop-place : goal.invariant-loop-place
invariant-loop-place l = l.places.items ≡ filter (is_asked_at l.layer l.history) (take l.place-index l.place-items)
