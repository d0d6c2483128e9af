-- The slices of the code as those of the model, and what a slice that passes shows.
use Rattle.std.specs.Prelude.{◌≡◌, Bool, true, false, ◌&&◌, ◌||◌, ◌↔◌, IsTrue, ℤ, ◌-ℤ◌, ◌*ℤ◌, List, Option, Some, None}
use Rattle.std.specs.List.{AllByRecursion}
use Rattle.rp_algebra.specs.Integer.{is_zero}
use Rattle.rp_geometry.specs.Geometry.{RationalPoint, HalfSpace, IsPoint, is_cube_point}
use Rattle.rp_geometry.specs.sets.Shape.{IsMember, shape_of_cell}
use Rattle.rp_geometry.specs.searches.Certificate.{Multiple, weighted_sum}
use Rattle.rp_geometry.specs.sections.Trace.{Trace, has_trace, trace_at, trace_holds, IsAtHeight}
use Rattle.rp_geometry.specs.sections.Ring.{RingStep, turns_of}
use Rattle.rp_geometry.specs.sections.Flat.{is_level_kind, is_trace_kind}
use Rattle.rp_geometry.specs.sections.Slice as model
use Rattle.rp_geometry.specs.laws.SectionLaws.{IsMemberAt, HasMemberAt, IsRing, IsNearAt, IsCornerAt, IsEnd, IsOnTheLeft}
use Rattle.rp_cert.specs.declared.slice.Slice.{Slice}
use Rattle.rp_cert.specs.declared.slice.Slice.TheVariants.{Ring, Flat}

-- the slice of the model for a slice of the code
abbrev pub slice_shown : Slice → model.Slice
slice_shown (Ring steps) = model.ring steps
slice_shown (Flat terms) = model.flat terms

-- the trace of a half-space, if it has one
abbrev pub trace_if : ℤ → HalfSpace → Option Trace
trace_if z h = elim (has_trace h) [ true ↦ Some (trace_at z h) | false ↦ None ]

-- the cross product of the directions of a trace and a half-space
abbrev pub turn_from : Trace → HalfSpace → ℤ
turn_from t h = t.a *ℤ h.b -ℤ t.b *ℤ h.a

-- the multiples cancel a and b, and are of one of the two kinds
abbrev pub cancels_at : ℤ → List Multiple → Bool
cancels_at z terms = is_zero (weighted_sum (λ h. h.a) terms) && is_zero (weighted_sum (λ h. h.b) terms) && (is_level_kind z terms || is_trace_kind z terms)

-- what a ring shows of a cell at a height: the members are exactly the cube points there that all edges hold, the ends are all corners of their closure and no other points, the closure lies on the left of the way from each end to the next, and there is no other ring
pub record RingShows (z : ℤ) (cell : List HalfSpace) (steps : List RingStep) : Type 0 where
  pub members : (p : RationalPoint) → IsPoint p → IsAtHeight z p → IsTrue (is_cube_point p) → IsMember (shape_of_cell cell) p ↔ AllByRecursion (λ s. IsTrue (trace_holds s.edge p)) steps
  pub some : HasMemberAt z cell
  pub corners : (p : RationalPoint) → IsPoint p → IsCornerAt z cell p ↔ IsEnd p steps
  pub left : (p : RationalPoint) → IsNearAt z cell p → AllByRecursion (λ u. IsOnTheLeft u.step.end u.next.end p) (turns_of steps)
  pub only : (others : List RingStep) → IsRing z cell others → others ≡ steps

-- what a slice shows; a flat certificate shows that the cell has no member at the height
abbrev pub Shows : ℤ → List HalfSpace → model.Slice → Type 0
Shows z cell (model.ring steps) = RingShows z cell steps
Shows z cell (model.flat terms) = (p : RationalPoint) → ¬ IsMemberAt z cell p
