-- The boxes of the code as those of the model.
use Rattle.std.specs.Prelude.{pos, get_or}
use Rattle.rp_geometry.specs.Geometry.{IntegerBox}
use Rattle.rp_space.specs.declared.bounds.IntBox.{IntBox}

-- the box of the model for a box of the code
abbrev pub integer_box : IntBox → IntegerBox
integer_box b = record { x1 = get_or b.lo 0 (pos 0); y1 = get_or b.lo 1 (pos 0); z1 = get_or b.lo 2 (pos 0); x2 = get_or b.hi 0 (pos 0); y2 = get_or b.hi 1 (pos 0); z2 = get_or b.hi 2 (pos 0) }
