-- Boxes of parts, which let the parts meet.
use Rattle.std.specs.Prelude.{Bool, List}
use Rattle.std.specs.List.{AllByRecursion}
use Rattle.rp_geometry.specs.Geometry.{IntegerBox, boxes_meet, closed_boxes_meet}
use Rattle.rp_geometry.specs.sets.Shape.{Part}
use Rattle.rp_geometry.specs.parts.LeastBox.{IsBoxWithin}
use Rattle.rp_proximity.specs.declared.reach.Reach.{Reach}
use Rattle.rp_proximity.specs.declared.reach.Reach.TheVariants.{Overlap, Touch}

-- two boxes let parts within them meet
abbrev pub boxes_let : Reach → IntegerBox → IntegerBox → Bool
boxes_let Overlap a b = boxes_meet a b
boxes_let Touch a b = closed_boxes_meet a b

-- the box holds the box of each part
abbrev pub IsAround : IntegerBox → List Part → Type 0
IsAround b ps = AllByRecursion (λ p. IsBoxWithin p.bounds b) ps
