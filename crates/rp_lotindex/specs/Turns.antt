-- Which axis of a box comes first in the index: one on which it is thin.
use Rattle.std.specs.Prelude.{Bool, cond, ◌&&◌, ℤ, pos, ◌-ℤ◌, ◌*ℤ◌, int_lt}
use Rattle.rp_geometry.specs.Geometry.{IntegerBox}
use Rattle.rp_lotindex.specs.declared.axis.Axis.{Axis}
use Rattle.rp_lotindex.specs.declared.axis.Axis.TheVariants.{X, Y, Z}

-- a box of these lengths on the three axes is a plate that lies flat
abbrev pub is_plate : ℤ → ℤ → ℤ → Bool
is_plate x y z = int_lt (pos 64 *ℤ z) x && int_lt (pos 64 *ℤ z) y

-- the axis that comes first, by the lengths on all three: z for plates, y if y is shorter than x, otherwise x
abbrev pub axis_by : ℤ → ℤ → ℤ → Axis
axis_by x y z = cond (is_plate x y z) Z (cond (int_lt y x) Y X)

-- the axis of a box that comes first
abbrev pub axis_of : IntegerBox → Axis
axis_of b = axis_by (b.x2 -ℤ b.x1) (b.y2 -ℤ b.y1) (b.z2 -ℤ b.z1)

-- a box with the numbers of x and of an axis exchanged
abbrev pub turned : Axis → IntegerBox → IntegerBox
turned X b = b
turned Y b = record { x1 = b.y1; x2 = b.y2; y1 = b.x1; y2 = b.x2; z1 = b.z1; z2 = b.z2 }
turned Z b = record { x1 = b.z1; x2 = b.z2; y1 = b.y1; y2 = b.y2; z1 = b.x1; z2 = b.x2 }
