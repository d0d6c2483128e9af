-- The positions of boxes in the index of a layer: live lots in one cube for each turn, and lots that ended in further cubes, by the stretches of lines in which they lived.
use Rattle.std.specs.Prelude.{ℕ, ◌+◌, ◌*◌, ◌/◌, ◌%◌, Bool, cond, ◌&&◌, ℤ, pos, negsuc, ◌+ℤ◌, ◌-ℤ◌, ◌*ℤ◌, int_le, List, [], ◌∷◌}
use Rattle.rp_geometry.specs.Geometry.{IntegerBox}
use Rattle.rp_lotindex.specs.declared.axis.Axis.{Axis}
use Rattle.rp_lotindex.specs.declared.axis.Axis.TheVariants.{X, Y, Z}
use Rattle.rp_lotindex.specs.declared.stretch.Stretch.{Stretch}
use Rattle.rp_lotindex.specs.Turns.{axis_of, turned}

-- the distance along an axis by which the cube of a number is moved
abbrev pub step_of : ℕ → ℤ
step_of n = ((pos n -ℤ pos 32) *ℤ pos 67108864) +ℤ pos 33554432

-- the coordinate is in the domain, or next to it
abbrev pub is_near_domain : ℤ → Bool
is_near_domain v = int_le (negsuc 16777216) v && int_le v (pos 16777217)

-- a lower side, moved; the least i32 if the side is far outside the domain
abbrev pub moved_low : ℤ → ℤ → ℤ
moved_low t v = cond (is_near_domain v) (t +ℤ v) (negsuc 2147483647)

-- an upper side, moved; the greatest i32 if the side is far outside the domain
abbrev pub moved_high : ℤ → ℤ → ℤ
moved_high t v = cond (is_near_domain v) (t +ℤ v) (pos 2147483647)

-- a box, moved by a step on each axis
abbrev pub moved_by : ℤ → ℤ → ℤ → IntegerBox → IntegerBox
moved_by x y z b = record { x1 = moved_low x b.x1; x2 = moved_high x b.x2; y1 = moved_low y b.y1; y2 = moved_high y b.y2; z1 = moved_low z b.z1; z2 = moved_high z b.z2 }

-- a box, moved into the cube of a number
unfoldable pub moved_to : ℕ → IntegerBox → IntegerBox
moved_to n b = moved_by (step_of (n % 64)) (step_of (n / 64 % 64)) (step_of (n / 4096 % 64)) b

-- the number by which the cubes of a turn come after those of the first turn
abbrev pub turn_number : Axis → ℕ
turn_number X = 0
turn_number Y = 87403
turn_number Z = 174806

-- a box, turned so that an axis comes first, and moved into the cube of a number for this turn
abbrev pub moved_in : Axis → ℕ → IntegerBox → IntegerBox
moved_in a n b = moved_to (n % 262144 + turn_number a) (turned a b)

-- a box, turned so that an axis on which it is thin comes first, and moved into the cube of a number
abbrev pub moved_own : ℕ → IntegerBox → IntegerBox
moved_own n b = moved_in (axis_of b) n b

-- a box, moved into the cube of a number in each of the three turns
abbrev pub in_turns : ℕ → IntegerBox → List IntegerBox
in_turns n b = moved_in X n b ∷ moved_in Y n b ∷ moved_in Z n b ∷ []

-- the number of the cube of live lots
abbrev pub live_number : ℕ
live_number = 0

-- a box in its own turn, moved into the cube of live lots
abbrev pub moved : IntegerBox → IntegerBox
moved b = moved_own live_number b

-- the number of the cube for a stretch of lines
abbrev pub past_number : Stretch → ℕ
past_number s = 1 + s.level * 70001 + s.mark

-- a box in its own turn, moved into the cube for a stretch of lines
abbrev pub moved_past : Stretch → IntegerBox → IntegerBox
moved_past s b = moved_own (past_number s) b
