use Rattle.std.proofs.Common.{◌≡◌, ◌∙◌, [], ◌∷◌, arith, subst, sym, ◌<◌, ℕ}
use Rattle.std.proofs.lemmas.Int.{to_z-of_z}
use mir.Syntax.{w128}
use Rattle.rp_algebra.specs.Integer.{gcd_of}
use Rattle.rp_geometry.specs.Geometry.{point_of}
use Rattle.rp_space.proofs.Kept.{point_divisor_above, point_divisor}
use Rattle.rp_space.proofs.point.divisor_of.Goals as goal

-- the divisor of the numbers as they were passed
divisor_is : (c : goal.After-common_divisor) → c.common_divisor.result ≡ gcd_of (c.args.x ∷ c.args.y ∷ c.args.z ∷ c.args.w ∷ [])
divisor_is c =
    c.common_divisor.ensures
    ∙ (λ i. gcd_of (to_z-of_z w128 c.args.x c.ranges.x i ∷ to_z-of_z w128 c.args.y c.ranges.y i ∷ to_z-of_z w128 c.args.z c.ranges.z i ∷ to_z-of_z w128 c.args.w c.ranges.w i ∷ []))

pub returns-clause-positive : goal.returns-clause-positive
returns-clause-positive c = subst (λ (n : ℕ). 0 < n) (sym (divisor_is c)) (point_divisor_above (point_of c.args.x c.args.y c.args.z c.args.w) c.requires.positive)

pub returns-clause-small : goal.returns-clause-small
returns-clause-small c =
    let bound = point_divisor (point_of c.args.x c.args.y c.args.z c.args.w) c.requires.positive in
    let size = c.requires.w in
    let same = divisor_is c in
    omega (arith, bound, size, same)
