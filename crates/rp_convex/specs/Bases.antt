-- The order of the vertices of a cell by the first three planes of each, as statements.
use Rattle.std.specs.Prelude.{◌≡◌, ℕ, ◌<◌, ◌≤◌, Bool, true, false, ◌⊎◌, pos, List, Some, None}
use Rattle.std.specs.List.{Contains, slice_get}
use Rattle.rp_geometry.specs.Geometry.{RationalPoint, HalfSpace, side_value, with_cube}
use Rattle.rp_geometry.specs.searches.Vertex.{meeting_weight, vertices, first_vertex}
use Rattle.rp_geometry.specs.laws.CellLaws.{AreHalfSpaces}
use Rattle.rp_convex.specs.Edges.{are_parallel}

-- three places in a list
pub record Places : Type 0 where
  pub first : ℕ
  pub second : ℕ
  pub third : ℕ

-- p comes before q: it is smaller at the first of the three places at which they differ
abbrev pub IsBefore : Places → Places → Type 0
IsBefore p q = (p.first < q.first) ⊎ ((p.first ≡ q.first) × ((p.second < q.second) ⊎ ((p.second ≡ q.second) × (p.third < q.third))))

-- the half-space is at the place of the list, and its plane passes through the point
pub record PassesAt (system : List HalfSpace) (v : RationalPoint) (i : ℕ) (h : HalfSpace) : Type 0 where
  pub stands : slice_get system i ≡ Some h
  pub on : side_value h v ≡ pos 0

-- three rising places whose planes meet in the point and in no other
pub record IsBasis (system : List HalfSpace) (v : RationalPoint) (p : Places) : Type 0 where
  pub one : HalfSpace
  pub two : HalfSpace
  pub three : HalfSpace
  pub rises : p.first < p.second
  pub rises_on : p.second < p.third
  pub first : PassesAt system v p.first one
  pub second : PassesAt system v p.second two
  pub third : PassesAt system v p.third three
  pub independent : meeting_weight one two three ≡ pos 0 → ⊥

-- the places are a basis of the point, and no basis of the point comes before them
abbrev pub IsFirstBasis : List HalfSpace → RationalPoint → Places → Type 0
IsFirstBasis system v p = IsBasis system v p × ((q : Places) → IsBasis system v q → ¬ IsBefore q p)

-- the greedy basis of the point: the lowest place whose plane passes through it, the next whose plane is not parallel to the first,
-- and the next whose plane meets both in one point
pub record IsGreedyBasis (system : List HalfSpace) (v : RationalPoint) (p : Places) : Type 0 where
  pub basis : IsBasis system v p
  pub lowest : (i : ℕ) (h : HalfSpace) → PassesAt system v i h → p.first ≤ i
  pub next : (i : ℕ) (h : HalfSpace) → p.first < i → PassesAt system v i h → are_parallel basis.one h ≡ false → p.second ≤ i
  pub last : (i : ℕ) (h : HalfSpace) → p.second < i → PassesAt system v i h → (meeting_weight basis.one basis.two h ≡ pos 0 → ⊥) → p.third ≤ i

-- the greedy basis of a point is its first basis
abbrev pub GreedyBasisIsFirst : Type 0
GreedyBasisIsFirst = (system : List HalfSpace) (v : RationalPoint) (p : Places) → IsGreedyBasis system v p → IsFirstBasis system v p

-- every vertex has a greedy basis
abbrev pub VertexHasGreedyBasis : Type 0
VertexHasGreedyBasis = (cell : List HalfSpace) (v : RationalPoint) → AreHalfSpaces cell → Contains (vertices cell) v → (p : Places) × IsGreedyBasis (with_cube cell) v p

-- a vertex that passes the test
abbrev pub IsPassingVertex : (RationalPoint → Bool) → List HalfSpace → RationalPoint → Type 0
IsPassingVertex test cell v = Contains (vertices cell) v × (test v ≡ true)

-- the first vertex that passes a test is the one whose first basis comes before those of all others that pass
abbrev pub FirstVertexHasLeastBasis : Type 0
FirstVertexHasLeastBasis = (test : RationalPoint → Bool) (cell : List HalfSpace) (v : RationalPoint) (p : Places) → AreHalfSpaces cell → IsPassingVertex test cell v → IsFirstBasis (with_cube cell) v p
    → ((w : RationalPoint) (q : Places) → IsPassingVertex test cell w → IsFirstBasis (with_cube cell) w q → ¬ IsBefore q p)
    → first_vertex test (with_cube cell) ≡ Some v

-- if no vertex passes the test, there is no first one
abbrev pub NoFirstWhereNonePasses : Type 0
NoFirstWhereNonePasses = (test : RationalPoint → Bool) (cell : List HalfSpace) → ((w : RationalPoint) → ¬ IsPassingVertex test cell w) → first_vertex test (with_cube cell) ≡ None
