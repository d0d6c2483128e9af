use Rattle.std.proofs.Common.{◌≡◌, ◌++◌, [], take, drop}
use Rattle.rp_semantics.specs.Walk.{first_tester}
use Rattle.rp_semantics.specs.Form.{carve}
use Rattle.rp_region.proofs.Left.{IsLeft}
use Rattle.rp_region.proofs.difference.carve.Given as goal

-- the cell is held inside the half-spaces gone over, and those still to come are left
abbrev pub invariant-loop-half : goal.invariant-loop-half
invariant-loop-half l =
    (l.front ≡ l.initial.front ++ take l.half-index l.halves)
    × IsLeft l.initial.work (carve first_tester l.initial.left.items l.initial.front [] l.halves)
    l.work (carve first_tester l.left.items l.initial.front (take l.half-index l.halves) (drop l.half-index l.halves))
