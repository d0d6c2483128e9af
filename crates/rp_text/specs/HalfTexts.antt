-- The cached texts of half-spaces.
use Rattle.std.specs.Prelude.{◌≡◌, ℕ, List, []}
use Rattle.rp_geometry.specs.Geometry.{HalfSpace}
use Rattle.rp_reports.specs.Text.{half_space_text}

-- a text that is not empty is the text of the half-space
abbrev pub IsTextOf : HalfSpace → List ℕ → Type 0
IsTextOf h text = (text ≡ [] → ⊥) → text ≡ half_space_text h
