-- The first three places of a set as three places of it.
use Rattle.std.proofs.Common.{ℕ, List, arith}
use Rattle.rp_geometry.specs.Geometry.{HalfSpace}
use Rattle.rp_clip.specs.Firsts.{AreThreeOf}
use Rattle.rp_clip.specs.Meetings.{IsFirstOfSet}
use Rattle.rp_clip.specs.declared.meet.Basis.{Basis}

-- the first three places of a set are three of it
pub first_are_three : (cell : List HalfSpace) (set : ℕ) (b : Basis) → IsFirstOfSet cell set b → AreThreeOf set b
first_are_three cell set b k =
    let f = k.others.from_on in
    record { first = k.lowest.is_in; second = k.others.first_in; third = k.others.second_in; rises = omega (arith, f); rises_further = k.others.rises }
