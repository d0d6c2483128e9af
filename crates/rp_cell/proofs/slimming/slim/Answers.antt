use Rattle.std.proofs.Common.{◌≤◌, List, length, subst}
use Rattle.std.specs.Prelude.{IfOk}
use Rattle.rp_geometry.specs.Geometry.{HalfSpace}
use Rattle.rp_geometry.specs.sets.Shape.{shape_of_cell}
use Rattle.rp_geometry.specs.sets.Sets.{IsNonempty}
use Rattle.rp_geometry.specs.parts.Parts.{IsPart, most_half_spaces}
use Rattle.rp_geometry.specs.parts.PartTest.{part_of, slimmed}
use Rattle.rp_cell.proofs.slimming.slim.Goals as goal

pub returns-clause-part : goal.returns-clause-part
returns-clause-part c =
    subst (λ (hs : List HalfSpace). IfOk c.slim.result (λ slim. IsNonempty (shape_of_cell hs) → length slim.kept.items ≤ most_half_spaces → IsPart (part_of (slimmed hs)))) c.new.ensures c.slim.ensures.part
