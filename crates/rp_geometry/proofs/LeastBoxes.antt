-- The least box that holds two boxes.
use Rattle.std.proofs.Common.{ℤ, ◌≤ℤ◌, arith}
use Rattle.std.proofs.lemmas.Int.{ints}
use Rattle.rp_algebra.proofs.Rounding.{min_left, max_left, min_right, max_right, le_trans}
use Rattle.rp_geometry.specs.Geometry.{IntegerBox}
use Rattle.rp_geometry.specs.parts.LeastBox.{IsBoxWithin, box_union}

-- a number is at most itself
le_refl : (a : ℤ) → a ≤ℤ a
le_refl a = omega (arith, ints)

-- a box lies in itself
pub box_itself : (b : IntegerBox) → IsBoxWithin b b
box_itself b = record { x = (le_refl b.x1, le_refl b.x2); y = (le_refl b.y1, le_refl b.y2); z = (le_refl b.z1, le_refl b.z2) }

-- the first of two boxes lies in the least box that holds both
pub union_left : (b e : IntegerBox) → IsBoxWithin b (box_union b e)
union_left b e = record { x = (min_left b.x1 e.x1, max_left b.x2 e.x2); y = (min_left b.y1 e.y1, max_left b.y2 e.y2); z = (min_left b.z1 e.z1, max_left b.z2 e.z2) }

-- and so does the second
pub union_right : (b e : IntegerBox) → IsBoxWithin e (box_union b e)
union_right b e = record { x = (min_right b.x1 e.x1, max_right b.x2 e.x2); y = (min_right b.y1 e.y1, max_right b.y2 e.y2); z = (min_right b.z1 e.z1, max_right b.z2 e.z2) }

-- a box lies in what holds a box that holds it
pub box_further : (b c e : IntegerBox) → IsBoxWithin b c → IsBoxWithin c e → IsBoxWithin b e
box_further b c e h k = record {
  x = (le_trans e.x1 c.x1 b.x1 k.x.0 h.x.0, le_trans b.x2 c.x2 e.x2 h.x.1 k.x.1);
  y = (le_trans e.y1 c.y1 b.y1 k.y.0 h.y.0, le_trans b.y2 c.y2 e.y2 h.y.1 k.y.1);
  z = (le_trans e.z1 c.z1 b.z1 k.z.0 h.z.0, le_trans b.z2 c.z2 e.z2 h.z.1 k.z.1);
}
