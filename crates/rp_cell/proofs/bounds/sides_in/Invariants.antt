use Rattle.std.proofs.Common.{◌≡◌, ◌≤◌, ◌++◌, length, drop, map}
use Rattle.rp_geometry.specs.parts.PartTest.{side_lines}
use Rattle.rp_cell.specs.Lines.{side_line_of}
use Rattle.rp_cell.proofs.bounds.sides_in.Given as goal

-- what is told so far, with the lines of the sides that are left, is all
abbrev pub invariant-loop-side : goal.invariant-loop-side
invariant-loop-side l = record {
  lines : map side_line_of l.proofs ++ side_lines l.cell (drop l.side-index l.side-items) ≡ side_lines l.cell l.side-items;
  room : length l.proofs ≤ l.side-index;
}
