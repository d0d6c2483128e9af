-- Slices: the results of sections of cells at a height.
use Rattle.std.specs.Prelude.{Bool, IsTrue, ◌⊎◌, ℤ, List, [], ◌∷◌, Some, None}
use Rattle.std.specs.List.{AllByRecursion}
use Rattle.rp_geometry.specs.Geometry.{RationalPoint, HalfSpace}
use Rattle.rp_geometry.specs.searches.Certificate.{Multiple}
use Rattle.rp_geometry.specs.sections.Trace.{trace_holds}
use Rattle.rp_geometry.specs.sections.Ring.{RingStep, is_ring, ring_of}
use Rattle.rp_geometry.specs.sections.Flat.{is_flat, first_flat}

-- the slice of a cell at a height: a ring, or a flat certificate
pub data Slice : Type 0 where
  ring : List RingStep → Slice
  flat : List Multiple → Slice

-- the slice is a ring or a flat certificate of the cell at height z
abbrev pub is_slice : ℤ → List HalfSpace → Slice → Bool
is_slice z cell (ring steps) = is_ring z cell steps
is_slice z cell (flat terms) = is_flat z cell terms

-- the slice of a cell at height z: the first flat certificate; if there is none, the ring
unfoldable pub slice_of : ℤ → List HalfSpace → Slice
slice_of z cell = elim (first_flat z cell) [ Some terms ↦ flat terms | None ↦ ring (ring_of z cell) ]

-- ---- the points that slices show

-- the slice shows the point: all edges of its ring hold it; a flat certificate shows no point
abbrev pub IsInSlice : RationalPoint → Slice → Type 0
IsInSlice p (ring steps) = AllByRecursion (λ s. IsTrue (trace_holds s.edge p)) steps
IsInSlice p (flat terms) = ⊥

-- one of the slices shows the point
abbrev pub IsInSlices : RationalPoint → List Slice → Type 0
IsInSlices p [] = ⊥
IsInSlices p (s ∷ slices) = IsInSlice p s ⊎ IsInSlices p slices
