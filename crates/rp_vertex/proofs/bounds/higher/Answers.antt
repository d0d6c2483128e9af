use Rattle.std.proofs.Common.{◌∙◌}
use Rattle.std.proofs.lemmas.Int.{to_z-of_z}
use mir.Syntax.{w32, w128}
use Rattle.rp_algebra.specs.Integer.{ceiling_of}
use Rattle.rp_vertex.proofs.Rounded.{high_stays, high_rises}
use Rattle.rp_vertex.proofs.bounds.higher.Goals as goal

pub returns-then-v-high : goal.returns-then-v-high
returns-then-v-high c = high_stays c.args.high c.args.v c.args.w c.ranges.high c.ranges.v c.requires.weight c.requires.weight_size c.if-v-high.true

pub returns-else-v-high : goal.returns-else-v-high
returns-else-v-high c =
    to_z-of_z w32 c.ceiling.result (record { sfits = c.ceiling.type_inv }) ∙ c.ceiling.ensures ∙ (λ i. ceiling_of (to_z-of_z w128 c.args.v c.ranges.v i) (to_z-of_z w128 c.args.w c.ranges.w i))
    ∙ high_rises c.args.high c.args.v c.args.w c.ranges.high c.ranges.v c.requires.weight c.requires.weight_size c.if-v-high.false
