use Rattle.std.proofs.Common.{◌-◌, ◌+◌, ◌∙◌, arith}
use Rattle.rp_space.specs.Boxes.{integer_box}
use Rattle.rp_lotindex.proofs.Stretches.{found_next, found_end}
use Rattle.rp_lotindex.proofs.owner.first_past.Goals as goal

pub loop-level-preserved : goal.loop-level-preserved
loop-level-preserved g c =
    let l = c.loop-level in
    let in_time = c.loop-level-test.true in
    found_next (g.C.Choice.passes c.args.choice.now) c.args.index.now (integer_box c.args.unit.now) (32 - l.level) (32 - (l.level + 1)) l.level l.mark l.first c.first_turned-first.result c.past_number-cube.result (omega (arith, in_time)) c.past_number-cube.ensures c.first_turned-first.ensures
    ∙ l.invariant

pub returns : goal.returns
returns g c =
    let l = c.loop-level in
    let behind = c.loop-level-test.false in
    found_end (g.C.Choice.passes c.args.choice.now) c.args.index.now (integer_box c.args.unit.now) (32 - l.level) l.level l.mark l.first (omega (arith, behind)) ∙ l.invariant
