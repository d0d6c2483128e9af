-- The laws over prisms and their trapezoids, as statements. Each is proved by the function whose contract names it.
use Rattle.std.specs.Prelude.{◌≡◌, false, ◌&&◌, IsTrue, ℤ, pos, ◌*ℤ◌, ◌<ℤ◌, int_le, List}
use Rattle.std.specs.List.{count_by}
use Rattle.rp_geometry.specs.Geometry.{RationalPoint, IsPoint, holds, all_hold}
use Rattle.rp_geometry.specs.sets.Prism.{Corner, Edge, edges_of, is_upright, spans, below_edge, is_odd, Prism, is_between_heights, is_corner_in_bounds, IsPrism}
use Rattle.rp_geometry.specs.parts.Parts.{AreKeptHalfSpaces}
use Rattle.rp_geometry.specs.parts.Trapezoid.{least_y, trapezoid}

-- for every x, the number of edges of a polygon that span it is even
abbrev pub CrossingsAreEven : Type 0
CrossingsAreEven = (corners : List Corner) (x w : ℤ) → pos 0 <ℤ w → is_odd (count_by (λ e. spans e x w) (edges_of corners)) ≡ false

-- the ends of the edge are within bounds and differ in x
pub record IsSlanted (e : Edge) : Type 0 where
  pub start : IsTrue (is_corner_in_bounds e.start)
  pub end : IsTrue (is_corner_in_bounds e.end)
  pub slanted : is_upright e ≡ false

-- the trapezoid of an edge has exactly the points in the edge's span, from the least y to below the edge by the sign rule, between the heights
abbrev pub TrapezoidIsBetween : Type 0
TrapezoidIsBetween = (s : Prism) (e : Edge) → IsPrism s → IsSlanted e → (p : RationalPoint) → IsPoint p →
    all_hold (trapezoid s e) p ≡ (((spans e p.x p.w && int_le (least_y s.corners *ℤ p.w) p.y) && holds (below_edge e) p) && is_between_heights s p)

-- the half-spaces of the trapezoid are within their bounds and in lowest terms
abbrev pub TrapezoidIsKept : Type 0
TrapezoidIsKept = (s : Prism) (e : Edge) → IsPrism s → IsSlanted e → AreKeptHalfSpaces (trapezoid s e)
