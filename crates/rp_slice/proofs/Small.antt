-- Sizes: at a height of the cube the numbers of traces keep their bounds.
use Rattle.std.proofs.Common.{◌∷◌, [], ℤ, ◌+ℤ◌, ◌*ℤ◌, arith}
use Rattle.std.proofs.lemmas.Int.{ints}
use Rattle.rp_algebra.specs.Within.{IsWithin}
use Rattle.rp_algebra.specs.Integer.{gcd_of}
use Rattle.rp_algebra.proofs.Machine.{code, within_by}
use Rattle.rp_algebra.proofs.LowestTerms.{quotient_within}
use Rattle.rp_geometry.specs.Geometry.{half_edge, greatest_offset}
use Rattle.rp_geometry.specs.sections.Trace.{IsHeight, offset_at, trace_at}
use Rattle.rp_geometry.specs.laws.SectionLaws.{greatest_trace_offset, TraceIsSmall}

-- a height of the cube keeps the bound of coefficients
pub height_within : (z : ℤ) → IsHeight z → IsWithin half_edge z
height_within z k = record { abs_le = (let l = k.lower in let u = k.upper in omega (arith, ints, l, u)) }

-- what c and d come to
pub offset_within : (c z d : ℤ) → IsWithin half_edge c → IsWithin half_edge z → IsWithin greatest_offset d → IsWithin greatest_trace_offset (c *ℤ z +ℤ d)
offset_within c z d kc kz kd = within_by (search code depth 30 fits 100000) tt

-- the law
pub trace_is_small_spec : TraceIsSmall
unfolding trace_at
trace_is_small_spec z h hz k =
    let g = gcd_of (h.a ∷ h.b ∷ offset_at z h ∷ []) in
    record {
      a = (quotient_within half_edge g h.a (record { abs_le = k.a })).abs_le;
      b = (quotient_within half_edge g h.b (record { abs_le = k.b })).abs_le;
      d = (quotient_within greatest_trace_offset g (offset_at z h) (offset_within h.c z h.d (record { abs_le = k.c }) (height_within z hz) (record { abs_le = k.d }))).abs_le;
    }
