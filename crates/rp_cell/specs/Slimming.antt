-- A step of slimming: whether a half-space is redundant among the others that stay.
use Rattle.std.specs.Prelude.{◌≡◌, ℕ, ◌+◌, ◌≤◌, true, false, List, [], ◌∷◌, ◌++◌, length, take, drop, Option, Some, None}
use Rattle.std.specs.List.{Contains, slice_get}
use Rattle.rp_geometry.specs.Geometry.{HalfSpace, complement}
use Rattle.rp_geometry.specs.searches.Certificate.{Multiple}
use Rattle.rp_geometry.specs.searches.ProofLine.{outside_terms}
use Rattle.rp_geometry.specs.parts.PartTest.{has_member}

-- the cell in which a half-space is tested: the others that stay, those after it, and its complement
abbrev pub tested : List HalfSpace → HalfSpace → List HalfSpace → List HalfSpace
tested kept h rest = kept ++ rest ++ complement h ∷ []

-- the half-space is at the place of the cell; the half-spaces after it are the rest, and those that stay come from before it
pub record IsTested (cell : List HalfSpace) (place : ℕ) (before : List HalfSpace) (h : HalfSpace) (behind : List HalfSpace) : Type 0 where
  pub at : slice_get cell place ≡ Some h
  pub rest : behind ≡ drop (place + 1) cell
  pub few : length before ≤ place
  pub kept : (g : HalfSpace) → Contains before g → Contains (take place cell) g

-- none if the cell has a member; otherwise its first outside certificate
abbrev pub IsDropProof : List HalfSpace → Option (List Multiple) → Type 0
IsDropProof cell None = has_member cell ≡ true
IsDropProof cell (Some terms) = (has_member cell ≡ false) × (terms ≡ outside_terms true cell)
