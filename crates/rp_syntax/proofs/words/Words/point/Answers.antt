use Rattle.std.proofs.Common.{subst, rules}
use Rattle.std.specs.Int.RustNames.{FitsSigned}
use Rattle.std.proofs.lemmas.Int.{to_z-of_z}
use mir.Syntax.{w128}
use Rattle.rp_geometry.specs.Geometry.{RationalPoint, point_of, reduced_point}
use Rattle.rp_language.specs.Grammar.{point, gives}
use Rattle.rp_syntax.specs.Reads.{Reads}
use Rattle.rp_syntax.proofs.words.Words.point.Goals as goal

pub returns : goal.returns
unfolding point
returns c =
    let fx : FitsSigned w128 c.in_ok-x.x = search rules in
    let fy : FitsSigned w128 c.in_ok-y.y = search rules in
    let fz : FitsSigned w128 c.in_ok-z.z = search rules in
    let fw : FitsSigned w128 c.in_ok-w.w = search rules in
    let place = c.number.new.self in
    let read =
    subst (λ (p : RationalPoint). Reads (λ q. q) c.rational_point.result place (gives (reduced_point p) place))
    (λ i. point_of (to_z-of_z w128 c.in_ok-x.x fx i) (to_z-of_z w128 c.in_ok-y.y fy i) (to_z-of_z w128 c.in_ok-z.z fz i) (to_z-of_z w128 c.in_ok-w.w fw i))
    (c.rational_point.ensures place) in
    rw (c.in_ok-x.ensures.read, c.in_ok-y.ensures.read, c.in_ok-z.ensures.read, c.in_ok-w.ensures.read) read
