use Rattle.std.proofs.Common.{◌≡◌, ◌∙◌, [], ◌∷◌, arith, subst, sym, ◌<◌, ℕ}
use Rattle.rp_algebra.specs.Integer.{gcd_of}
use Rattle.rp_geometry.specs.Geometry.{half_space_of}
use Rattle.rp_geometry.proofs.InLowestTerms.{divisor_above}
use Rattle.rp_space.proofs.Kept.{widened, half_space_divisor}
use Rattle.rp_space.proofs.half.divisor_of.Goals as goal

-- the divisor of the numbers as they were passed
divisor_is : (c : goal.After-common_divisor) → c.common_divisor.result ≡ gcd_of (c.args.a ∷ c.args.b ∷ c.args.c ∷ c.args.d ∷ [])
divisor_is c =
    c.common_divisor.ensures ∙ (λ i. gcd_of (widened c.args.a c.ranges.a i ∷ widened c.args.b c.ranges.b i ∷ widened c.args.c c.ranges.c i ∷ widened c.args.d c.ranges.d i ∷ []))

pub returns-clause-value : goal.returns-clause-value
returns-clause-value c = divisor_is c

pub returns-clause-positive : goal.returns-clause-positive
returns-clause-positive c =
    subst (λ (n : ℕ). 0 < n) (sym (divisor_is c)) (divisor_above (half_space_of c.args.a c.args.b c.args.c c.args.d) c.requires.nonzero)

pub returns-clause-small : goal.returns-clause-small
returns-clause-small c =
    let bound = half_space_divisor (half_space_of c.args.a c.args.b c.args.c c.args.d) c.requires.bounds in
    let same = divisor_is c in
    omega (arith, bound, same)
