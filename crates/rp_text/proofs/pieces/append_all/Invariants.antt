use Rattle.std.proofs.Common.{◌≡◌, ◌++◌, take}
use Rattle.rp_text.specs.Fronts.{joined}
use Rattle.rp_text.proofs.pieces.append_all.Given as goal

-- the pieces so far were appended
abbrev pub invariant-loop-piece : goal.invariant-loop-piece
invariant-loop-piece l = l.out.items ≡ l.fn.out.items ++ joined (take l.piece-index l.pieces)
