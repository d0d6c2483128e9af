-- The proof lines of a cell.
use Rattle.std.specs.Prelude.{List}
use Rattle.rp_geometry.specs.Geometry.{HalfSpace}
use Rattle.rp_geometry.specs.searches.Certificate.{Multiple}
use Rattle.rp_geometry.specs.searches.ProofLine.{ProofLine, out_line, drop_line}

-- the proof line of a half-space that was dropped, with the multiples that show that it is redundant
abbrev pub drop_line_of : HalfSpace × List Multiple → ProofLine
drop_line_of d = drop_line d.0 d.1

-- the proof line of a side of a box, with the multiples that show that no member is outside it
abbrev pub side_line_of : List Multiple → ProofLine
side_line_of terms = out_line terms
