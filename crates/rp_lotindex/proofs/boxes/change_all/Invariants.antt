use Rattle.rp_history.specs.Lots.{lot_of}
use Rattle.rp_lotindex.specs.Indexed.{boxes_by}
use Rattle.rp_lotindex.proofs.Put.{AreChanged}
use Rattle.rp_lotindex.proofs.boxes.change_all.Given as goal

-- the boxes so far were put in the place of others
abbrev pub invariant-loop-number : goal.invariant-loop-number
invariant-loop-number g l = AreChanged l.fn.index l.index l.place l.number (boxes_by (lot_of l.lot) (g.B.Bounded.boxes l.boxes))
