-- Prisms: a polygon with whole corners, which may cross or touch itself, raised between two heights, and the points that pass its test.
use Rattle.std.specs.Prelude.{ℕ, zero, suc, ◌≤◌, Bool, false, ◌&&◌, not, IsTrue, cond, ℤ, pos, neg_ℤ, ◌-ℤ◌, ◌*ℤ◌, int_lt, List, [], ◌∷◌, length}
use Rattle.std.specs.List.{list_all, count_by}
use Rattle.rp_algebra.specs.Integer.{int_eq}
use Rattle.rp_geometry.specs.Geometry.{RationalPoint, HalfSpace, half_space_of, holds, is_between, is_within_bound, cube_bound}

-- ---- polygons

-- a corner of a polygon
pub record Corner : Type 0 where
  pub x : ℤ
  pub y : ℤ

-- the corner with the given two numbers
abbrev pub corner_of : ℤ → ℤ → Corner
corner_of x y = record { x = x; y = y }

-- an edge of a polygon, from a corner to the next one
pub record Edge : Type 0 where
  pub start : Corner
  pub end : Corner

-- the edge between two corners
abbrev pub edge_of : Corner → Corner → Edge
edge_of c d = record { start = c; end = d }

-- the edges from a corner through the further corners, and from the last one to the corner `first`
abbrev pub edges_along : Corner → Corner → List Corner → List Edge
edges_along first c [] = edge_of c first ∷ []
edges_along first c (d ∷ ds) = edge_of c d ∷ edges_along first d ds

-- the edges of a polygon: from each corner to the next, and from the last to the first
abbrev pub edges_of : List Corner → List Edge
edges_of [] = []
edges_of (c ∷ cs) = edges_along c c cs

-- the ends of the edge have equal x
abbrev pub is_upright : Edge → Bool
is_upright e = int_eq e.start.x e.end.x

-- the end of an edge with the lesser x
abbrev pub left_end : Edge → Corner
left_end e = cond (int_lt e.start.x e.end.x) e.start e.end

-- the end of an edge with the greater x
abbrev pub right_end : Edge → Corner
right_end e = cond (int_lt e.start.x e.end.x) e.end e.start

-- the coordinate x/w is from the left end of the edge to below its right end; an edge with ends of equal x spans no coordinate
abbrev pub spans : Edge → ℤ → ℤ → Bool
spans e x w = is_between (left_end e).x (right_end e).x x w

-- the half-space below the line from a left end to a right end
abbrev pub below_line : Corner → Corner → HalfSpace
below_line l r = half_space_of (r.y -ℤ l.y) (neg_ℤ (r.x -ℤ l.x)) (pos 0) ((r.x -ℤ l.x) *ℤ l.y -ℤ (r.y -ℤ l.y) *ℤ l.x)

-- the half-space below an edge
abbrev pub below_edge : Edge → HalfSpace
below_edge e = below_line (left_end e) (right_end e)

-- the edge is above the point
abbrev pub is_above : Edge → RationalPoint → Bool
is_above e p = spans e p.x p.w && holds (below_edge e) p

-- ---- prisms

-- a polygon raised from a lower height to below an upper height
pub record Prism : Type 0 where
  pub low : ℤ
  pub high : ℤ
  pub corners : List Corner

-- the number is odd
abbrev pub is_odd : ℕ → Bool
is_odd zero = false
is_odd (suc n) = not (is_odd n)

-- the point is at or above the lower height and below the upper height
abbrev pub is_between_heights : Prism → RationalPoint → Bool
is_between_heights s p = is_between s.low s.high p.z p.w

-- the point passes the test of a prism: it is between the heights, and the number of edges above it is odd
abbrev pub passes_prism : Prism → RationalPoint → Bool
passes_prism s p = is_between_heights s p && is_odd (count_by (λ e. is_above e p) (edges_of s.corners))

-- ---- bounds

-- the greatest size of a coordinate of a corner, 2 ^ 23
abbrev pub corner_bound : ℤ
corner_bound = pos 8388608

-- the coordinates of a corner are within their bounds
abbrev pub is_corner_in_bounds : Corner → Bool
is_corner_in_bounds c = is_within_bound corner_bound c.x && is_within_bound corner_bound c.y

-- the most corners of a polygon
abbrev pub most_corners : ℕ
most_corners = 256

-- a prism within its bounds, with 1 to 256 corners
pub record IsPrism (s : Prism) : Type 0 where
  pub low : IsTrue (is_within_bound cube_bound s.low)
  pub high : IsTrue (is_within_bound cube_bound s.high)
  pub corners : IsTrue (list_all is_corner_in_bounds s.corners)
  pub some : 1 ≤ length s.corners
  pub few : length s.corners ≤ most_corners
