-- The points at which the plane of a further half-space crosses the edges of a cell, as a table of them is filled.
use Rattle.std.specs.Prelude.{◌≡◌, ℕ, ◌<◌, Bool, true, false, pos, ◌≤ℤ◌, ◌<ℤ◌, List, [], ◌∷◌, ◌++◌, length, map, bit_and, Some}
use Rattle.std.specs.List.{Contains}
use Rattle.rp_geometry.specs.Geometry.{RationalPoint, HalfSpace, side_value}
use Rattle.rp_geometry.specs.searches.Vertex.{vertices, meeting_point}
use Rattle.rp_clip.specs.Masks.{mask_of}
use Rattle.rp_clip.specs.Meetings.{ArePlaces}
use Rattle.rp_clip.specs.Tables.{Rows, IsTable, HasAllOf, HasMoreVertices}
use Rattle.rp_clip.specs.Sides.{side_of}
use Rattle.rp_clip.specs.declared.cross.Side.{Side}
use Rattle.rp_clip.specs.declared.cross.Side.TheVariants.{Above}

-- the table of a cell's vertices, and the side of the plane of a further half-space on which each is
pub record HasSides (most : ℕ) (cell : List HalfSpace) (h : HalfSpace) (t : Rows) (sides : List Side) : Type 0 where
  pub table : IsTable most cell t
  pub each : sides ≡ map (side_of h) t.points
  pub room : length cell < 64

-- the set is that of the planes through a vertex at which the half-space is positive
abbrev pub IsAbove : List HalfSpace → HalfSpace → ℕ → Type 0
IsAbove cell h set = (u : RationalPoint) × Contains (vertices cell) u × (pos 0 <ℤ side_value h u) × (set ≡ mask_of cell u)

-- the set is that of the planes through a vertex at which the half-space is negative
abbrev pub IsBelow : List HalfSpace → HalfSpace → ℕ → Type 0
IsBelow cell h set = (w : RationalPoint) × Contains (vertices cell) w × (side_value h w <ℤ pos 0) × (set ≡ mask_of cell w)

-- the sets are those of the vertices of a table at which the half-space is negative
pub record AreAllBelow (cell : List HalfSpace) (h : HalfSpace) (t : Rows) (sets : List ℕ) : Type 0 where
  pub each : (set : ℕ) → Contains sets set → IsBelow cell h set
  pub all : (w : RationalPoint) → Contains t.points w → side_value h w <ℤ pos 0 → Contains sets (mask_of cell w)

-- the set is that of the planes through two vertices; the half-space is positive at one and negative at the other
pub record IsBetween (cell : List HalfSpace) (h : HalfSpace) (set : ℕ) : Type 0 where
  pub room : length cell < 64
  pub above : RationalPoint
  pub below : RationalPoint
  pub above_vertex : Contains (vertices cell) above
  pub below_vertex : Contains (vertices cell) below
  pub positive : pos 0 <ℤ side_value h above
  pub negative : side_value h below <ℤ pos 0
  pub common : set ≡ bit_and (mask_of cell above) (mask_of cell below)

-- each point in which two planes of the set meet the plane of h is in the table
abbrev pub HasMeetings : List HalfSpace → HalfSpace → ℕ → Rows → Type 0
HasMeetings cell h set t = (i j : ℕ) (f g : HalfSpace) (v : RationalPoint) → ArePlaces cell set 0 i j f g → meeting_point f g h ≡ Some v → Contains t.points v

-- the table has these points for the planes that a vertex above h shares with each vertex of the list below h
abbrev pub HasMeetingsOf : List HalfSpace → HalfSpace → RationalPoint → List RationalPoint → Rows → Type 0
HasMeetingsOf cell h u points t =
    pos 0 <ℤ side_value h u → (w : RationalPoint) → Contains points w → side_value h w <ℤ pos 0 → HasMeetings cell h (bit_and (mask_of cell u) (mask_of cell w)) t

-- the half-spaces of a cell and one more
abbrev pub with_one : List HalfSpace → HalfSpace → List HalfSpace
with_one cell h = cell ++ h ∷ []

-- the new table is one of the cell with one more half-space, and has all points of the old table
pub record IsGrown (most : ℕ) (cell : List HalfSpace) (h : HalfSpace) (old new : Rows) : Type 0 where
  pub table : IsTable most (with_one cell h) new
  pub all : HasAllOf old new

-- the result of adding the crossings of one set to a table
abbrev pub IsCrossed : ℕ → List HalfSpace → HalfSpace → ℕ → Rows → Rows → Bool → Type 0
IsCrossed most cell h set old new true = IsGrown most cell h old new × HasMeetings cell h set new
IsCrossed most cell h set old new false = HasMoreVertices most (with_one cell h)

-- the result of adding the crossings from one vertex to those of the sets below
abbrev pub IsCrossedFrom : ℕ → List HalfSpace → HalfSpace → List ℕ → ℕ → Rows → Rows → Bool → Type 0
IsCrossedFrom most cell h below set old new true = IsGrown most cell h old new × ((low : ℕ) → Contains below low → HasMeetings cell h (bit_and set low) new)
IsCrossedFrom most cell h below set old new false = HasMoreVertices most (with_one cell h)

-- the result of adding the crossings from a vertex to those of the sets below, if the vertex is above
abbrev pub IsCrossedAbove : ℕ → List HalfSpace → HalfSpace → List ℕ → Side → ℕ → Rows → Rows → Bool → Type 0
IsCrossedAbove most cell h below side set old new true = IsGrown most cell h old new × (side ≡ Above → (low : ℕ) → Contains below low → HasMeetings cell h (bit_and set low) new)
IsCrossedAbove most cell h below side set old new false = HasMoreVertices most (with_one cell h)

-- the result of adding all crossings
abbrev pub IsCrossedAll : ℕ → List HalfSpace → HalfSpace → List RationalPoint → Rows → Rows → Bool → Type 0
IsCrossedAll most cell h points old new true = IsGrown most cell h old new × ((u : RationalPoint) → Contains points u → HasMeetingsOf cell h u points new)
IsCrossedAll most cell h points old new false = HasMoreVertices most (with_one cell h)

-- a table of the vertices at which the further half-space is not negative
pub record IsKeptTable (most : ℕ) (cell : List HalfSpace) (h : HalfSpace) (old new : Rows) : Type 0 where
  pub table : IsTable most (with_one cell h) new
  pub kept : (v : RationalPoint) → Contains old.points v → pos 0 ≤ℤ side_value h v → Contains new.points v

-- what it means that a table was filled with the vertices of the cell with one more half-space: those that are kept, and then the crossings
pub record IsRefilled (most : ℕ) (cell : List HalfSpace) (h : HalfSpace) (old new : Rows) (result : Bool) : Type 0 where
  pub kept : Rows
  pub keeps : IsKeptTable most cell h old kept
  pub crossed : IsCrossedAll most cell h old.points kept new result
