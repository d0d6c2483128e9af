-- The least box around boxes.
use Rattle.std.specs.Prelude.{List, [], ◌∷◌, map}
use Rattle.rp_geometry.specs.Geometry.{IntegerBox}
use Rattle.rp_geometry.specs.sets.Shape.{Part}
use Rattle.rp_geometry.specs.parts.LeastBox.{box_union}

-- the boxes of parts, in order
abbrev pub bounds_of : List Part → List IntegerBox
bounds_of ps = map (λ p. p.bounds) ps

-- the least box around a box and further ones
abbrev pub joined : IntegerBox → List IntegerBox → IntegerBox
joined b [] = b
joined b (c ∷ cs) = joined (box_union b c) cs
