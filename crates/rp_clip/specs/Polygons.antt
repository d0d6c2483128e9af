-- The vertices of a cell on one plane, as tables of them.
use Rattle.std.specs.Prelude.{◌≡◌, ℕ, ◌<◌, ◌≤◌, pos, ◌<ℤ◌, List, [], ◌∷◌, length, map, Some}
use Rattle.std.specs.List.{Contains, slice_get}
use Rattle.rp_geometry.specs.Geometry.{RationalPoint, HalfSpace, reduced_point, side_value}
use Rattle.rp_geometry.specs.searches.Vertex.{vertices}
use Rattle.rp_geometry.specs.laws.CellLaws.{AreHalfSpaces}
use Rattle.rp_space.specs.Places.{IsIn}
use Rattle.rp_clip.specs.Masks.{mask_of}
use Rattle.rp_clip.specs.Tables.{Rows, IsTable}

-- half-spaces and a table
pub record Sided : Type 0 where
  pub halves : List HalfSpace
  pub table : Rows

-- the half-spaces and the table as one value
abbrev pub sided : List HalfSpace → Rows → Sided
sided halves table = record { halves = halves; table = table }

-- a table of different vertices of a cell of at most 64 half-spaces, with all vertices on the plane at a place
pub record IsPolygon (cell : List HalfSpace) (place : ℕ) (t : Rows) : Type 0 where
  pub few : length cell ≤ 64
  pub bounds : AreHalfSpaces cell
  pub table : IsTable 16 cell t
  pub complete : (v : RationalPoint) → Contains (vertices cell) v → IsIn (mask_of cell v) place → Contains t.points v

-- each point is on the plane at a place
abbrev pub AreOnPlane : List HalfSpace → ℕ → List RationalPoint → Type 0
AreOnPlane cell place points = (v : RationalPoint) → Contains points v → IsIn (mask_of cell v) place

-- each item is below the count, and each number below the count is an item
pub record Covers (order : List ℕ) (count : ℕ) : Type 0 where
  pub below : (i : ℕ) → Contains order i → i < count
  pub all : (i : ℕ) → i < count → Contains order i

-- the half-spaces of a cell at the places of a list, in the order of the list
abbrev pub IsSorted : List HalfSpace → List ℕ → List HalfSpace → Type 0
IsSorted cell [] [] = Unit {0}
IsSorted cell [] (h ∷ sorted) = ⊥
IsSorted cell (i ∷ order) [] = ⊥
IsSorted cell (i ∷ order) (h ∷ sorted) = (slice_get cell i ≡ Some h) × IsSorted cell order sorted

-- the half-space is positive at all points of a list, taken in lowest terms
abbrev pub IsPositiveAtAll : HalfSpace → List RationalPoint → Type 0
IsPositiveAtAll h corners = (v : RationalPoint) → Contains (map reduced_point corners) v → pos 0 <ℤ side_value h v

-- the places of a set, renamed by the order of a list; those of the cube stay
pub record IsRenamed (order : List ℕ) (set renamed : ℕ) : Type 0 where
  pub cell : (i : ℕ) → i < 64 → IsIn renamed i → (rank : ℕ) × IsIn set rank × (slice_get order rank ≡ Some i)
  pub ranked : (rank i : ℕ) → IsIn set rank → slice_get order rank ≡ Some i → IsIn renamed i
  pub cube_from : (i : ℕ) → 64 ≤ i → IsIn renamed i → IsIn set i
  pub cube_to : (i : ℕ) → 64 ≤ i → IsIn set i → IsIn renamed i
