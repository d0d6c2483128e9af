use Rattle.rp_clip.proofs.Orders.{IsRenaming}
use Rattle.rp_clip.proofs.Walks.{places_left}
use Rattle.rp_clip.proofs.polygon.renamed.Given as goal

-- how far the places are renamed
abbrev pub invariant-loop-next : goal.invariant-loop-next
invariant-loop-next l = IsRenaming l.order l.set l.places l.next

-- fewer places are left
abbrev pub decreases-loop-next : goal.decreases-loop-next
decreases-loop-next l = places_left l.next
