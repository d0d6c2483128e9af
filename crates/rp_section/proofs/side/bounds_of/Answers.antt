use Rattle.std.proofs.Common.{List, sym, ap, ◌∙◌, arith}
use Rattle.rp_section.specs.declared.side.Side.{Side}
use Rattle.rp_section.specs.Sides.{add_bound, bounds_of}
use Rattle.rp_section.proofs.Listing.{more_behind}
use Rattle.rp_section.proofs.side.bounds_of.Goals as goal

pub loop-behind-preserved : goal.loop-behind-preserved
loop-behind-preserved c =
    let level = c.args.level.now in
    let sides = c.args.sides.now in
    let s = c.index-sides-sides.result in
    let few = c.add_bound.ensures.few in
    let before = c.loop-behind.invariant.few in
    record {
      items = c.add_bound.ensures.items
          ∙ ap (λ (bounds : List Side). add_bound level sides s bounds) c.loop-behind.invariant.items
          ∙ ap (λ (rest : List Side). bounds_of level sides rest) (sym (more_behind sides c.loop-behind.behind s c.loop-behind-test.true c.index-sides-sides.is));
      few = omega (arith, few, before);
    }
