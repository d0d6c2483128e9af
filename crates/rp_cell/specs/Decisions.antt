-- The results of decisions about a cell.
use Rattle.std.specs.Prelude.{◌≡◌, true, false, IsTrue, List, Some}
use Rattle.rp_geometry.specs.Geometry.{RationalPoint, HalfSpace}
use Rattle.rp_geometry.specs.sets.Shape.{shape_of_cell}
use Rattle.rp_geometry.specs.sets.Sets.{IsNonempty, IsEmpty}
use Rattle.rp_geometry.specs.searches.Certificate.{is_inside_certificate, is_outside_certificate}
use Rattle.rp_geometry.specs.searches.Vertex.{first_inside, first_weak_point}
use Rattle.rp_geometry.specs.searches.Elimination.{first_outside}
use Rattle.rp_geometry.specs.laws.CellLaws.{IsSolution}
use Rattle.rp_geometry.specs.searches.ProofLine.{ProofLine, in_line, out_line, at_line, apart_line}
use Rattle.rp_cell.specs.declared.decide.Strict.{Strict}
use Rattle.rp_cell.specs.declared.decide.Strict.TheVariants.{Inside, Outside}
use Rattle.rp_cell.specs.declared.decide.Weak.{Weak}
use Rattle.rp_cell.specs.declared.decide.Weak.TheVariants.{At, Outside as Apart}

-- the proof line of a strict decision
abbrev pub line_of_strict : Strict → ProofLine
line_of_strict (Inside points) = in_line points
line_of_strict (Outside terms) = out_line terms

-- the proof line of a weak decision
abbrev pub line_of_weak : Weak → ProofLine
line_of_weak (At p) = at_line p
line_of_weak (Apart terms) = apart_line terms

-- the first inside certificate, which shows that the cell has a member, or the first outside certificate, which shows that it has none
abbrev pub DecidesStrict : List HalfSpace → Strict → Type 0
DecidesStrict cell (Inside points) = (first_inside cell ≡ Some points) × IsTrue (is_inside_certificate cell points) × IsNonempty (shape_of_cell cell)
DecidesStrict cell (Outside terms) = (first_outside true cell ≡ Some terms) × IsTrue (is_outside_certificate true cell terms) × IsEmpty (shape_of_cell cell)

-- the first weak point, which solves the weak system, or the first outside certificate of the weak system, which shows that no point is in it
abbrev pub DecidesWeak : List HalfSpace → Weak → Type 0
DecidesWeak cell (At p) = (first_weak_point cell ≡ Some p) × IsSolution false cell p
DecidesWeak cell (Apart terms) = (first_outside false cell ≡ Some terms) × IsTrue (is_outside_certificate false cell terms) × ((p : RationalPoint) → ¬ IsSolution false cell p)
