use Rattle.std.proofs.Common.{List, sym, subst}
use Rattle.rp_geometry.specs.Geometry.{HalfSpace, IntegerBox, cube_box}
use Rattle.rp_geometry.specs.parts.Parts.{IsPart}
use Rattle.rp_forms.proofs.Whole.{whole_is_part}
use Rattle.rp_region.proofs.part.Part.whole.Goals as goal

pub invariant_of-result : goal.invariant_of-result
invariant_of-result c =
    subst (λ (bounds : IntegerBox). IsPart (record { cell = c.new.result.items; bounds = bounds })) (sym c.cube.ensures)
    (subst (λ (cell : List HalfSpace). IsPart (record { cell = cell; bounds = cube_box })) (sym c.new.ensures) whole_is_part)
