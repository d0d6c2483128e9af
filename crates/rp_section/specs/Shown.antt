-- The slices of parts, and which of them are flat certificates.
use Rattle.std.specs.Prelude.{ℤ, List, map}
use Rattle.rp_geometry.specs.sets.Shape.{Part}
use Rattle.rp_geometry.specs.sections.Slice as model
use Rattle.rp_cert.specs.declared.slice.Slice.{Slice}
use Rattle.rp_cert.specs.declared.slice.Slice.TheVariants.{Ring, Flat}

-- the slice is a flat certificate
abbrev pub IsFlat : Slice → Type 0
IsFlat (Ring steps) = ⊥
IsFlat (Flat terms) = Unit {0}

-- the slices of parts at a height, in order
abbrev pub slices_of : ℤ → List Part → List model.Slice
slices_of z parts = map (λ part. model.slice_of z part.cell) parts
