use Rattle.std.proofs.Common.{◌∷◌, [], ◌++◌, List, take, ℤ, to_z, of_z, sym, ap, ◌∙◌, arith, append_assoc}
use mir.Syntax.{w32}
use Rattle.rp_section.specs.declared.side.Side.{Side}
use Rattle.rp_section.specs.Sides.{sides_of}
use Rattle.rp_section.proofs.Listing.{sides_more}
use Rattle.rp_section.proofs.side.extend.Goals as goal

pub loop-half-preserved : goal.loop-half-preserved
loop-half-preserved c =
    let h = c.half-item.result in
    let hs = c.args.halves.now in
    let i = c.loop-half.half-index in
    let z : ℤ = to_z w32 (of_z w32 c.args.z) in
    let more = sides_more z hs i h c.loop-half-test.true c.half-item.is in
    let few = c.push.ensures.few in
    let before = c.loop-half.invariant.few in
    record {
      items = c.push.ensures.items
          ∙ (λ k. c.loop-half.invariant.items k ++ sides_of z (h ∷ []))
          ∙ append_assoc c.args.sides.now.items (sides_of z (take i hs)) (sides_of z (h ∷ []))
          ∙ ap (λ (xs : List Side). c.args.sides.now.items ++ xs) (sym more);
      few = omega (arith, few, before);
    }
