use Rattle.std.proofs.Common.{◌≡◌, ◌≤◌, [], ◌∷◌, take, length}
use Rattle.rp_geometry.specs.searches.Vertex.{flat_half_spaces}
use Rattle.rp_vertex.proofs.flat.flat_at.Given as goal

-- those of the half-spaces so far
abbrev pub invariant-loop-half : goal.invariant-loop-half
invariant-loop-half l = (l.flat.items ≡ flat_half_spaces (take l.half-index l.halves) (l.p ∷ [])) × (length l.flat.items ≤ l.half-index)
