use Rattle.std.proofs.Common.{◌<◌, length, arith}
use Rattle.rp_geometry.specs.laws.PieceLaws.{itself}
use Rattle.rp_unionfind.proofs.Trees.{set_low, root_stays, two_above, step_up}
use Rattle.rp_unionfind.proofs.forest.root_of.Goals as goal

pub loop-parents-init : goal.loop-parents-init
loop-parents-init c = (c.requires.low, omega arith, λ k e. e, λ links n h f. (f, itself))

pub loop-parents-preserved : goal.loop-parents-preserved
loop-parents-preserved c =
    let ps = c.loop-parents.parents in
    let k = c.loop-parents.number in
    let kept = c.loop-parents.invariant in
    let below = two_above ps k kept.0 c.loop-parents-test.true in
    let within : k < length ps = omega arith in (
      set_low ps k _ kept.0 (omega (arith, below)) within,
      omega (arith, below),
      λ j e. root_stays ps k _ j c.loop-parents-test.true within (kept.2 j e),
      λ links n h f. step_up links n c.args.parents.now ps c.args.number k f c.requires.within h (kept.3 links n h f) c.loop-parents-test.true,
    )
