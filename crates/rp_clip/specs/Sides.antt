-- The side of a plane on which a point is.
use Rattle.std.specs.Prelude.{ℕ, Bool, true, false, List, [], ◌∷◌, ◌++◌, cond, not, bit_or}
use Rattle.rp_algebra.specs.Integer.{is_zero, is_positive}
use Rattle.rp_geometry.specs.Geometry.{RationalPoint, HalfSpace, side_value}
use Rattle.rp_clip.specs.declared.cross.Side.{Side}
use Rattle.rp_clip.specs.declared.cross.Side.TheVariants.{Above, On, Below}

-- the side of a value: above if it is positive, on the plane if it is 0, otherwise below
abbrev pub side_by : Bool → Bool → Side
side_by positive zero = cond positive Above (cond zero On Below)

-- the side of a plane on which the point is
abbrev pub side_of : HalfSpace → RationalPoint → Side
side_of h p = side_by (is_positive (side_value h p)) (is_zero (side_value h p))

-- the side is not below
abbrev pub is_not_below : Side → Bool
is_not_below Above = true
is_not_below On = true
is_not_below Below = false

-- the side is below
abbrev pub is_below : Side → Bool
is_below side = not (is_not_below side)

-- the list with one more item, if the item is to be kept
abbrev pub with_kept : {A : Type 0} → Bool → List A → A → List A
with_kept is_kept xs x = cond is_kept (xs ++ x ∷ []) xs

-- the places of a point that stays: with the new place, if the point is on its plane
abbrev pub kept_planes : Side → ℕ → ℕ → ℕ
kept_planes Above planes place = planes
kept_planes On planes place = bit_or planes place
kept_planes Below planes place = planes
