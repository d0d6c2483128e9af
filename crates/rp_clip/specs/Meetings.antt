-- The first two places of a set whose planes meet a third one in one point.
use Rattle.std.specs.Prelude.{◌≡◌, ℕ, ◌+◌, ◌<◌, ◌≤◌, ◌⊎◌, List, length, Some, None, IsSome}
use Rattle.std.specs.List.{Contains}
use Rattle.rp_geometry.specs.Geometry.{RationalPoint, HalfSpace, IsPoint, reduced_point}
use Rattle.rp_geometry.specs.searches.Vertex.{meeting_point, vertices}
use Rattle.rp_geometry.specs.laws.CellLaws.{AreHalfSpaces}
use Rattle.rp_space.specs.Places.{IsIn, IsLowestFrom, HasNoneFrom}
use Rattle.rp_clip.specs.Masks.{mask_of, half_at}
use Rattle.rp_clip.specs.declared.meet.Basis.{Basis}
use Rattle.rp_clip.specs.declared.meet.Met.{Met}

-- two rising places of a set, from a place on, with their half-spaces
pub record ArePlaces (cell : List HalfSpace) (set from i j : ℕ) (f g : HalfSpace) : Type 0 where
  pub from_on : from ≤ i
  pub rises : i < j
  pub first_in : IsIn set i
  pub second_in : IsIn set j
  pub first : half_at cell i ≡ Some f
  pub second : half_at cell j ≡ Some g

-- the first two places come before the other two: they are smaller at the first at which they differ
abbrev pub AreBefore : ℕ → ℕ → ℕ → ℕ → Type 0
AreBefore i j k l = (i < k) ⊎ ((i ≡ k) × (j < l))

-- two places of the set whose planes meet the plane of h in the given point
pub record IsMet (cell : List HalfSpace) (set from : ℕ) (h : HalfSpace) (m : Met) : Type 0 where
  pub one : HalfSpace
  pub two : HalfSpace
  pub places : ArePlaces cell set from m.first m.second one two
  pub point : IsPoint m.at
  pub at : Some (reduced_point m.at) ≡ meeting_point one two h

-- no two places of the set have planes that meet the plane of h in one point
abbrev pub MeetNowhere : List HalfSpace → ℕ → ℕ → HalfSpace → Type 0
MeetNowhere cell set from h = (i j : ℕ) (f g : HalfSpace) → ArePlaces cell set from i j f g → meeting_point f g h ≡ None

-- the first two places of the set whose planes meet the plane of h in one point
pub record IsFirstMet (cell : List HalfSpace) (set from : ℕ) (h : HalfSpace) (m : Met) : Type 0 where
  pub met : IsMet cell set from h m
  pub earlier : (i j : ℕ) (f g : HalfSpace) → ArePlaces cell set from i j f g → AreBefore i j m.first m.second → meeting_point f g h ≡ None

-- the first place after a given first one whose plane meets that plane and the plane of h in one point
pub record IsFirstMetWith (cell : List HalfSpace) (set first : ℕ) (h : HalfSpace) (m : Met) : Type 0 where
  pub is_first : m.first ≡ first
  pub met : IsMet cell set first h m
  pub earlier : (j : ℕ) (f g : HalfSpace) → ArePlaces cell set first first j f g → j < m.second → meeting_point f g h ≡ None

-- no place after a given first one has a plane that meets that plane and the plane of h in one point
abbrev pub MeetNowhereWith : List HalfSpace → ℕ → ℕ → HalfSpace → Type 0
MeetNowhereWith cell set first h = (j : ℕ) (f g : HalfSpace) → ArePlaces cell set first first j f g → meeting_point f g h ≡ None

-- the first three places of a set whose planes meet in one point: the lowest, and the first two after it whose planes meet its plane in one point
pub record IsFirstOfSet (cell : List HalfSpace) (set : ℕ) (b : Basis) : Type 0 where
  pub lowest : IsLowestFrom set 0 b.first
  pub one : HalfSpace
  pub first : half_at cell b.first ≡ Some one
  pub two : HalfSpace
  pub three : HalfSpace
  pub others : ArePlaces cell set (b.first + 1) b.second b.third two three
  pub meets : IsSome (meeting_point two three one)
  pub earlier : (i j : ℕ) (f g : HalfSpace) → ArePlaces cell set (b.first + 1) i j f g → AreBefore i j b.second b.third → meeting_point f g one ≡ None

-- no two planes of the set meet the plane of the lowest place in one point
abbrev pub HasNoBasis : List HalfSpace → ℕ → Type 0
HasNoBasis cell set = (place : ℕ) (one : HalfSpace) → IsLowestFrom set 0 place → half_at cell place ≡ Some one → MeetNowhere cell set (place + 1) one

-- the set is that of the planes through a vertex of a cell of at most 64 half-spaces
pub record IsVertexSet (cell : List HalfSpace) (set : ℕ) : Type 0 where
  pub few : length cell ≤ 64
  pub bounds : AreHalfSpaces cell
  pub vertex : RationalPoint
  pub is_vertex : Contains (vertices cell) vertex
  pub exact : set ≡ mask_of cell vertex

-- the set has exactly these three places
pub record IsThree (set : ℕ) (b : Basis) : Type 0 where
  pub first : IsLowestFrom set 0 b.first
  pub second : IsLowestFrom set (b.first + 1) b.second
  pub third : IsLowestFrom set (b.second + 1) b.third
  pub none : HasNoneFrom set (b.third + 1)
