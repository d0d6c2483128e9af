use Rattle.std.specs.Prelude.{◌∷◌, map}
use Rattle.std.specs.Vec.Iter.{into_iter_items}
use Rattle.rp_geometry.specs.searches.ProofLine.{in_line}
use Rattle.rp_cell.specs.Lines.{drop_line_of}
use Rattle.rp_region.specs.Makes.{telling}
use Rattle.rp_region.proofs.Left.{IsLeft}
use Rattle.rp_region.proofs.work.Work.tell_found.Given as goal

-- the lines still to come are left
abbrev pub invariant-loop-half : goal.invariant-loop-half
invariant-loop-half l = IsLeft l.fn.self (telling (in_line l.fn.points ∷ map drop_line_of l.fn.dropped.items)) l.self (telling (map drop_line_of (into_iter_items l.half-iterator)))
