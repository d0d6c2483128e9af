-- The part of the line of two planes that a list of half-spaces leaves.
use Rattle.std.specs.Prelude.{◌≡◌, Bool, true, false, ◌&&◌, ◌||◌, ◌⊎◌, pos, negsuc, ◌≤ℤ◌, List, Some, None}
use Rattle.std.specs.List.{Contains}
use Rattle.rp_algebra.specs.Integer.{is_negative, is_positive}
use Rattle.rp_geometry.specs.Geometry.{RationalPoint, HalfSpace, IsPoint, side_value, cube_bound, half_space_of, reduced_point}
use Rattle.rp_geometry.specs.searches.Vertex.{any_point, meeting_point, vertex_at}
use Rattle.rp_space.specs.TwoHalfSpaces.{TwoHalfSpaces}
use Rattle.rp_vertex.specs.declared.line.Line.{Line}
use Rattle.rp_vertex.specs.declared.line.Line.TheVariants.{Unknown, Empty, Between}
use Rattle.rp_vertex.specs.declared.line.Span.{Span}

-- two points are on the same side of a plane, and not on it
abbrev pub are_on_one_side : HalfSpace → RationalPoint → RationalPoint → Bool
are_on_one_side h p q = (is_positive (side_value h p) && is_positive (side_value h q)) || (is_negative (side_value h p) && is_negative (side_value h q))

-- no vertex on the line is on the plane of the half-space, by the ends of the line
abbrev pub passes : Line → HalfSpace → Bool
passes Unknown h = false
passes Empty h = true
passes (Between span) h = are_on_one_side h span.one span.two

-- no half-space that is passed over has a vertex on the line
abbrev pub HoldsVertices : List HalfSpace → TwoHalfSpaces → Line → Type 0
HoldsVertices system pair line = (h : HalfSpace) → passes line h ≡ true → vertex_at any_point system pair.first pair.second h ≡ None

-- a point of both planes
pub record IsOnLine (pair : TwoHalfSpaces) (p : RationalPoint) : Type 0 where
  pub point : IsPoint p
  pub first : side_value pair.first p ≡ pos 0
  pub second : side_value pair.second p ≡ pos 0

-- a point of both planes at which no half-space of a list is negative
pub record IsLeft (system : List HalfSpace) (pair : TwoHalfSpaces) (p : RationalPoint) : Type 0 where
  pub on : IsOnLine pair p
  pub sides : (h : HalfSpace) → Contains system h → pos 0 ≤ℤ side_value h p

-- two points of the line with every point that is left between them: a function that is not negative at both is not negative at a point that is left
pub record IsSpan (system : List HalfSpace) (pair : TwoHalfSpaces) (span : Span) : Type 0 where
  pub one : IsOnLine pair span.one
  pub two : IsOnLine pair span.two
  pub holds : (u : HalfSpace) → pos 0 ≤ℤ side_value u span.one → pos 0 ≤ℤ side_value u span.two → (p : RationalPoint) → IsLeft system pair p → pos 0 ≤ℤ side_value u p

-- a point, maybe not in lowest terms, at which three planes meet
pub record MeetAt (f g h : HalfSpace) (p : RationalPoint) : Type 0 where
  pub point : IsPoint p
  pub is : Some (reduced_point p) ≡ meeting_point f g h

-- the ends are where the line meets the planes of two half-spaces
pub record IsBetween (pair : TwoHalfSpaces) (f g : HalfSpace) (span : Span) : Type 0 where
  pub one : MeetAt pair.first pair.second f span.one
  pub two : MeetAt pair.first pair.second g span.two

-- the ends lie on two opposite sides of the domain cube
abbrev pub IsInCube : TwoHalfSpaces → Span → Type 0
IsInCube pair span =
    IsBetween pair (half_space_of (pos 1) (pos 0) (pos 0) cube_bound) (half_space_of (negsuc 0) (pos 0) (pos 0) cube_bound) span
    ⊎ IsBetween pair (half_space_of (pos 0) (pos 1) (pos 0) cube_bound) (half_space_of (pos 0) (negsuc 0) (pos 0) cube_bound) span
    ⊎ IsBetween pair (half_space_of (pos 0) (pos 0) (pos 1) cube_bound) (half_space_of (pos 0) (pos 0) (negsuc 0) cube_bound) span

-- no point of the line is left
abbrev pub IsNothingLeft : List HalfSpace → TwoHalfSpaces → Type 0
IsNothingLeft system pair = (p : RationalPoint) → IsLeft system pair p → ⊥

-- the ends have between them every point that is left, if the flag is true; otherwise no point is left
abbrev pub HoldsLeft : List HalfSpace → TwoHalfSpaces → Span → Bool → Type 0
HoldsLeft system pair span true = IsSpan system pair span
HoldsLeft system pair span false = IsNothingLeft system pair

-- if the half-space is in the system, the new ends have between them what is left between the old ones
abbrev pub Cuts : TwoHalfSpaces → HalfSpace → Span → Span → Bool → Type 0
Cuts pair h old new is_left = (system : List HalfSpace) → Contains system h → IsSpan system pair old → HoldsLeft system pair new is_left
