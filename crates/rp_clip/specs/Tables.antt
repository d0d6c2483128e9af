-- Tables of points with the planes through each.
use Rattle.std.specs.Prelude.{◌≡◌, ℕ, ◌<◌, ◌≤◌, ◌↔◌, ◌⊎◌, Bool, true, false, cond, List, [], ◌∷◌, ◌++◌, length, map}
use Rattle.std.specs.List.{Contains}
use Rattle.rp_geometry.specs.Geometry.{RationalPoint, HalfSpace}
use Rattle.rp_geometry.specs.searches.Vertex.{vertices}
use Rattle.rp_clip.specs.Masks.{mask_of}

-- points, and for each the places of the planes through it
pub record Rows : Type 0 where
  pub points : List RationalPoint
  pub planes : List ℕ

-- the table with the given points and places
abbrev pub rows_of : List RationalPoint → List ℕ → Rows
rows_of points planes = record { points = points; planes = planes }

-- the second of two tables, if the flag is true; otherwise the first
abbrev pub counting : Bool → Rows → Rows → Rows
counting is_second first second = cond is_second second first

-- no item occurs twice
abbrev pub AreDistinct : {A : Type 0} → List A → Type 0
AreDistinct [] = Unit {0}
AreDistinct (x ∷ xs) = (¬ Contains xs x) × AreDistinct xs

-- different vertices of a cell
pub record AreDifferentVertices (cell : List HalfSpace) (points : List RationalPoint) : Type 0 where
  pub distinct : AreDistinct points
  pub vertices : (v : RationalPoint) → Contains points v → Contains (vertices cell) v

-- the vertices of a cell, each once
pub record AreVertices (cell : List HalfSpace) (points : List RationalPoint) : Type 0 where
  pub distinct : AreDistinct points
  pub exact : (v : RationalPoint) → Contains points v ↔ Contains (vertices cell) v

-- the cell has more than n vertices
abbrev pub HasMoreVertices : ℕ → List HalfSpace → Type 0
HasMoreVertices n cell = (points : List RationalPoint) × AreDifferentVertices cell points × (n < length points)

-- a table of different vertices of a cell, at most the given number, and for each the places of the planes through it
pub record IsTable (most : ℕ) (cell : List HalfSpace) (t : Rows) : Type 0 where
  pub different : AreDifferentVertices cell t.points
  pub planes : t.planes ≡ map (mask_of cell) t.points
  pub fits : length t.points ≤ most

-- the new table has all points of the old one
abbrev pub HasAllOf : Rows → Rows → Type 0
HasAllOf old new = (v : RationalPoint) → Contains old.points v → Contains new.points v

-- what it means that a row is put into a table with room for so many: one with its places stood there and all is as before, or it stands at the end; or none did, and the table is full
abbrev pub IsPut : ℕ → Rows → RationalPoint → ℕ → Rows → Bool → Type 0
IsPut most old p planes new true =
    (Contains old.planes planes × (new ≡ old))
    ⊎ ((¬ Contains old.planes planes) × (length old.points < most) × (new.points ≡ old.points ++ p ∷ []) × (new.planes ≡ old.planes ++ planes ∷ []))
IsPut most old p planes new false = (¬ Contains old.planes planes) × (length old.points ≡ most)
