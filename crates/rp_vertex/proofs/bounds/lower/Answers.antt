use Rattle.std.proofs.Common.{◌∙◌}
use Rattle.std.proofs.lemmas.Int.{to_z-of_z}
use mir.Syntax.{w32, w128}
use Rattle.rp_algebra.specs.Integer.{floor_of}
use Rattle.rp_algebra.proofs.Machine.{read_is}
use Rattle.rp_vertex.proofs.Rounded.{low_stays, low_falls}
use Rattle.rp_vertex.proofs.bounds.lower.Goals as goal

pub returns-then-low-w : goal.returns-then-low-w
returns-then-low-w c = low_stays c.args.low c.args.v c.args.w c.ranges.low c.ranges.v c.requires.weight c.requires.size c.if-low-w.true

pub returns-else-low-w : goal.returns-else-low-w
returns-else-low-w c =
    read_is w32 c.floor.ensures.small tt ∙ c.floor.ensures.value ∙ (λ i. floor_of (to_z-of_z w128 c.args.v c.ranges.v i) (to_z-of_z w128 c.args.w c.ranges.w i))
    ∙ low_falls c.args.low c.args.v c.args.w c.ranges.low c.ranges.v c.requires.weight c.requires.size c.if-low-w.false
