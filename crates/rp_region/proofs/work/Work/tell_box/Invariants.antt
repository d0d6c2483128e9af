use Rattle.std.specs.Prelude.{◌∷◌, map}
use Rattle.rp_geometry.specs.searches.ProofLine.{box_line}
use Rattle.rp_space.specs.Boxes.{integer_box}
use Rattle.rp_cell.specs.Lines.{side_line_of}
use Rattle.rp_region.specs.Makes.{telling}
use Rattle.rp_region.proofs.Left.{IsLeft}
use Rattle.rp_region.proofs.work.Work.tell_box.Given as goal

-- the lines still to come are left
abbrev pub invariant-loop-terms : goal.invariant-loop-terms
invariant-loop-terms l = IsLeft l.fn.self (telling (box_line (integer_box l.fn.bounds) ∷ map side_line_of l.fn.proofs)) l.self (telling (map side_line_of l.terms-iterator))
