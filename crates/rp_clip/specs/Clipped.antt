-- Cells with their vertices, as a contract sees them, and the invariants of each.
use Rattle.std.specs.Prelude.{ℕ, ◌≤◌, List, length}
use Rattle.std.specs.List.{Contains}
use Rattle.rp_geometry.specs.Geometry.{RationalPoint, HalfSpace}
use Rattle.rp_geometry.specs.searches.Vertex.{vertices}
use Rattle.rp_geometry.specs.laws.CellLaws.{AreHalfSpaces}
use Rattle.rp_clip.specs.Tables.{Rows, IsTable}

-- the half-spaces in order, and the points
pub record Clipped : Type 0 where
  pub halves : List HalfSpace
  pub points : List RationalPoint

-- the cell with the given half-spaces and points
abbrev pub clipped : List HalfSpace → List RationalPoint → Clipped
clipped halves points = record { halves = halves; points = points }

-- at most 64 half-spaces, and a table of exactly the vertices, with room for the given number
pub record HasVertices (most : ℕ) (cell : List HalfSpace) (t : Rows) : Type 0 where
  pub few : length cell ≤ 64
  pub bounds : AreHalfSpaces cell
  pub table : IsTable most cell t
  pub complete : (v : RationalPoint) → Contains (vertices cell) v → Contains t.points v
