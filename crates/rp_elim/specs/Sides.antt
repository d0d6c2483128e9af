-- Signs, and three half-spaces as one value.
use Rattle.std.specs.Prelude.{◌≡◌, Bool, true, false, ℤ, pos, neg_ℤ, ◌+ℤ◌, ◌-ℤ◌, ◌*ℤ◌, ◌<ℤ◌, int_le}
use Rattle.rp_algebra.specs.Integer.{is_positive, is_negative}
use Rattle.rp_geometry.specs.Geometry.{HalfSpace}
use Rattle.rp_geometry.specs.searches.Vertex.{meeting_weight}

-- the number is above 0 (true), or below 0 (false)
abbrev pub has_sign : Bool → ℤ → Bool
has_sign true v = is_positive v
has_sign false v = is_negative v

-- the number (true), or its negation (false)
abbrev pub signed : Bool → ℤ → ℤ
signed true v = v
signed false v = neg_ℤ v

-- a sum of offsets is at most 0 (strict, true), or below 0 (weak, false)
abbrev pub contradicts : Bool → ℤ → Bool
contradicts true s = int_le s (pos 0)
contradicts false s = is_negative s

-- the sum of four multiples of the offsets of four half-spaces, with alternating signs
abbrev pub four_offsets : ℤ → ℤ → ℤ → ℤ → HalfSpace → HalfSpace → HalfSpace → HalfSpace → ℤ
four_offsets x y z w e f g h = x *ℤ e.d -ℤ y *ℤ f.d +ℤ z *ℤ g.d -ℤ w *ℤ h.d

-- the sum of the offsets of four half-spaces, each times its minor, with alternating signs
abbrev pub offset_of_four : HalfSpace → HalfSpace → HalfSpace → HalfSpace → ℤ
offset_of_four e f g h = four_offsets (meeting_weight f g h) (meeting_weight e g h) (meeting_weight e f h) (meeting_weight e f g) e f g h

-- the four minors have not one sign but for their places, or so many times the offsets do not contradict: so the half-spaces do not refute, in whatever order
pub record CannotRefute (strict : Bool) (e f g h : HalfSpace) : Type 0 where
  pub up : pos 0 <ℤ meeting_weight f g h → meeting_weight e g h <ℤ pos 0 → pos 0 <ℤ meeting_weight e f h → meeting_weight e f g <ℤ pos 0 → contradicts strict (offset_of_four e f g h) ≡ true → ⊥
  pub down : meeting_weight f g h <ℤ pos 0 → pos 0 <ℤ meeting_weight e g h → meeting_weight e f h <ℤ pos 0 → pos 0 <ℤ meeting_weight e f g → contradicts strict (neg_ℤ (offset_of_four e f g h)) ≡ true → ⊥

-- three half-spaces
pub record ThreeHalfSpaces : Type 0 where
  pub first : HalfSpace
  pub second : HalfSpace
  pub third : HalfSpace

-- the three half-spaces as one value
abbrev pub three_of : HalfSpace → HalfSpace → HalfSpace → ThreeHalfSpaces
three_of e f g = record { first = e; second = f; third = g }
