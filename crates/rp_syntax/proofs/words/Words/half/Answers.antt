use Rattle.std.proofs.Common.{subst, rules}
use Rattle.std.specs.Int.RustNames.{FitsSigned}
use Rattle.std.proofs.lemmas.Int.{to_z-of_z}
use mir.Syntax.{w128}
use Rattle.rp_geometry.specs.Geometry.{HalfSpace, half_space_of}
use Rattle.rp_language.specs.Grammar.{half_space_numbers, nonzero_half_space}
use Rattle.rp_syntax.specs.Reads.{Reads}
use Rattle.rp_syntax.proofs.words.Words.half.Goals as goal

pub returns : goal.returns
unfolding half_space_numbers
returns c =
    let fa : FitsSigned w128 c.in_ok-a.a = search rules in
    let fb : FitsSigned w128 c.in_ok-b.b = search rules in
    let fc : FitsSigned w128 c.in_ok-c.c = search rules in
    let fd : FitsSigned w128 c.in_ok-d.d = search rules in
    let place = c.number-4.new.self in
    let read =
    subst (λ (h : HalfSpace). Reads (λ k. k) c.half_space.result place (nonzero_half_space h place))
    (λ i. half_space_of (to_z-of_z w128 c.in_ok-a.a fa i) (to_z-of_z w128 c.in_ok-b.b fb i) (to_z-of_z w128 c.in_ok-c.c fc i) (to_z-of_z w128 c.in_ok-d.d fd i))
    (c.half_space.ensures place) in
    rw (c.in_ok-a.ensures.read, c.in_ok-b.ensures.read, c.in_ok-c.ensures.read, c.in_ok-d.ensures.read) read
