use Rattle.rp_clip.proofs.Orders.{IsSeen}
use Rattle.rp_clip.proofs.order.covers.Given as goal

-- the places so far
abbrev pub invariant-loop-place : goal.invariant-loop-place
invariant-loop-place l = IsSeen l.order l.count l.place-index l.seen
