-- Horizontal planes: whole heights, and the traces of half-spaces at a height.
use Rattle.std.specs.Prelude.{◌≡◌, Bool, true, false, ◌&&◌, not, ℤ, pos, negsuc, neg_ℤ, ◌+ℤ◌, ◌*ℤ◌, ◌≤ℤ◌, ◌<ℤ◌, List, [], ◌∷◌, ◌++◌}
use Rattle.rp_algebra.specs.Integer.{int_eq, is_zero, gcd_of, reduced_by}
use Rattle.rp_geometry.specs.Geometry.{RationalPoint, HalfSpace, point_of, half_space_of, holds, cube_bound}

-- ---- heights

-- a whole height of the domain cube: from its lower face to below its upper face
pub record IsHeight (z : ℤ) : Type 0 where
  pub lower : neg_ℤ cube_bound ≤ℤ z
  pub upper : z <ℤ cube_bound

-- the point has height z
abbrev pub is_at_height : ℤ → RationalPoint → Bool
is_at_height z p = int_eq p.z (z *ℤ p.w)

-- the point has height z, as a fact
abbrev pub IsAtHeight : ℤ → RationalPoint → Type 0
IsAtHeight z p = p.z ≡ z *ℤ p.w

-- the point of height z on the axis of z
abbrev pub level_point : ℤ → RationalPoint
level_point z = point_of (pos 0) (pos 0) z (pos 1)

-- ---- traces

-- the trace of a half-space on a horizontal plane: the points with a x + b y + d above 0, with part of the line where it is 0
pub record Trace : Type 0 where
  pub a : ℤ
  pub b : ℤ
  pub d : ℤ

-- the trace with the given three numbers
abbrev pub trace_of : ℤ → ℤ → ℤ → Trace
trace_of a b d = record { a = a; b = b; d = d }

-- a half-space has a trace iff its plane is not horizontal: a and b are not both 0
abbrev pub has_trace : HalfSpace → Bool
has_trace h = not (is_zero h.a && is_zero h.b)

-- the sum c z + d of a half-space at height z
abbrev pub offset_at : ℤ → HalfSpace → ℤ
offset_at z h = h.c *ℤ z +ℤ h.d

-- the trace of a half-space at height z, in lowest terms
unfoldable pub trace_at : ℤ → HalfSpace → Trace
trace_at z h =
    let g = gcd_of (h.a ∷ h.b ∷ offset_at z h ∷ []) in
    record { a = reduced_by g h.a; b = reduced_by g h.b; d = reduced_by g (offset_at z h) }

-- the upright half-space with the numbers of a trace
abbrev pub upright : Trace → HalfSpace
upright t = half_space_of t.a t.b (pos 0) t.d

-- the trace holds the point iff its upright half-space does
abbrev pub trace_holds : Trace → RationalPoint → Bool
trace_holds t p = holds (upright t) p

-- the value of a trace at a point: the value of its upright half-space
abbrev pub trace_value : Trace → RationalPoint → ℤ
trace_value t p = t.a *ℤ p.x +ℤ t.b *ℤ p.y +ℤ t.d *ℤ p.w

-- the list with the trace before it, if the test is true
abbrev pub trace_before : Bool → Trace → List Trace → List Trace
trace_before true t ts = t ∷ ts
trace_before false t ts = ts

-- the traces at height z of the half-spaces of a list that have a trace
abbrev pub traces : ℤ → List HalfSpace → List Trace
traces z [] = []
traces z (h ∷ hs) = trace_before (has_trace h) (trace_at z h) (traces z hs)

-- the two traces have equal three numbers
abbrev pub trace_eq : Trace → Trace → Bool
trace_eq s t = int_eq s.a t.a && (int_eq s.b t.b && int_eq s.d t.d)

-- the half-space, which has no trace, holds the point on the axis at height z, and so every point at this height
abbrev pub holds_level : ℤ → HalfSpace → Bool
holds_level z h = holds h (level_point z)

-- the four upright sides of the domain cube, in their order
abbrev pub cube_sides : List HalfSpace
cube_sides =
    half_space_of (pos 1) (pos 0) (pos 0) cube_bound ∷ half_space_of (negsuc 0) (pos 0) (pos 0) cube_bound
    ∷ half_space_of (pos 0) (pos 1) (pos 0) cube_bound ∷ half_space_of (pos 0) (negsuc 0) (pos 0) cube_bound ∷ []

-- the flat list of a cell: its half-spaces in order, then the four upright sides of the cube
abbrev pub with_sides : List HalfSpace → List HalfSpace
with_sides cell = cell ++ cube_sides
