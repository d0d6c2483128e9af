use Rattle.std.proofs.Common.{true, false, pos, to_z, of_z}
use mir.Syntax.{w128}
use lib.Signed.{lt_z}
use Rattle.rp_elim.specs.SignSets.{weight_has}
use Rattle.rp_elim.proofs.Walks.{twice_fits, with_bit_fits}
use Rattle.rp_elim.proofs.sign_sets.Signs.new.Goals as goal

pub overflow_mul-above : goal.overflow_mul-above
overflow_mul-above c = twice_fits (weight_has true c.args.kp.now.first c.args.kp.now.second) c.args.qs.now c.loop-i.i c.loop-i.above c.requires c.loop-i.invariant.above

pub overflow_add-above : goal.overflow_add-above
overflow_add-above c = with_bit_fits (weight_has true c.args.kp.now.first c.args.kp.now.second) c.args.qs.now c.loop-i.i c.loop-i.above (lt_z (pos 0) (to_z w128 (of_z w128 c.weight-weight.result))) c.requires c.loop-i.invariant.above

pub overflow_mul-below : goal.overflow_mul-below
overflow_mul-below c = twice_fits (weight_has false c.args.kp.now.first c.args.kp.now.second) c.args.qs.now c.loop-i.i c.loop-i.below c.requires c.loop-i.invariant.below

pub overflow_add-below : goal.overflow_add-below
overflow_add-below c = with_bit_fits (weight_has false c.args.kp.now.first c.args.kp.now.second) c.args.qs.now c.loop-i.i c.loop-i.below (lt_z (to_z w128 (of_z w128 c.weight-weight.result)) (pos 0)) c.requires c.loop-i.invariant.below
