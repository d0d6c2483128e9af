-- A common point with a positive weight, and the same point in lowest terms.
use Rattle.std.proofs.Common.{◌≡◌, pos, true, false, refl}
use Rattle.std.specs.Prelude.{Some, None, option_map}
use Rattle.rp_algebra.specs.Integer.{is_zero, is_positive}
use Rattle.rp_geometry.specs.Geometry.{RationalPoint, reduced_point}
use Rattle.rp_geometry.specs.searches.Vertex.{negated_point, normal_point}
use Rattle.rp_space.specs.PositivePoint.{positive_point}

-- the point with a positive weight, brought into lowest terms, is the one in normal form
pub reduced_positive : (p : RationalPoint) → option_map reduced_point (positive_point p) ≡ normal_point p
reduced_positive p =
    elim (is_zero p.w) as (λ b.
    option_map reduced_point (elim b [ true ↦ None | false ↦ elim (is_positive p.w) [ true ↦ Some p | false ↦ Some (negated_point p) ] ])
    ≡ elim b [ true ↦ None | false ↦ elim (is_positive p.w) [ true ↦ Some (reduced_point p) | false ↦ Some (reduced_point (negated_point p)) ] ]) [
      | true ↦ refl
      | false ↦ elim (is_positive p.w) as (λ b.
          option_map reduced_point (elim b [ true ↦ Some p | false ↦ Some (negated_point p) ])
          ≡ elim b [ true ↦ Some (reduced_point p) | false ↦ Some (reduced_point (negated_point p)) ]) [ true ↦ refl | false ↦ refl ]
    ]

-- a weight of 0 leaves no point
pub none_at_zero : (p : RationalPoint) → p.w ≡ pos 0 → None ≡ positive_point p
none_at_zero p e = rw e refl
