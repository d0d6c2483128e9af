-- Cells held with their vertices.
use Rattle.std.specs.Prelude.{◌≡◌, ℕ, ◌<◌, ◌≤◌, Bool, true, List, length, take}
use Rattle.rp_geometry.specs.Geometry.{HalfSpace}
use Rattle.rp_geometry.specs.sets.Shape.{shape_of_cell}
use Rattle.rp_geometry.specs.sets.Sets.{IsNonempty}
use Rattle.rp_clip.specs.Clipped.{Clipped}

-- at most 64 half-spaces; where the clip has the whole cell, these are its own; so many from the front have a common point, if this is not 0
pub record IsHeld (cell : List HalfSpace) (clip : Clipped) (whole : Bool) (inner : ℕ) : Type 0 where
  pub few : length cell ≤ 64
  pub same : whole ≡ true → clip.halves ≡ cell
  pub front : inner ≤ length cell
  pub inside : 0 < inner → IsNonempty (shape_of_cell (take inner cell))
