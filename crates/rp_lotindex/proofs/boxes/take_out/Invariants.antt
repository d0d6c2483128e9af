use Rattle.std.proofs.Common.{◌*◌}
use Rattle.rp_lotindex.proofs.Put.{AreTaken}
use Rattle.rp_lotindex.proofs.boxes.take_out.Given as goal

-- the boxes so far were taken out
abbrev pub invariant-loop-id : goal.invariant-loop-id
invariant-loop-id l = AreTaken l.fn.index l.index (l.place * 16) l.id
