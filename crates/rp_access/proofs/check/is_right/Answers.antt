use Rattle.std.proofs.Common.{◌-◌, arith}
use Rattle.rp_access.proofs.Checked.{right_as, right_above}
use Rattle.rp_access.proofs.check.is_right.Goals as goal

pub returns : goal.returns
returns c = right_as c.args.levels.now c.args.is_last c.args.own c.in-Some.level c.args.numbers.now c.first_of_level.result c.is_some.result c.if-is_last.false c.in-Some.is c.is_some.ensures
    (right_above c.args.levels.now c.in-Some.level (c.in-Some.level - 1) c.args.numbers.now (omega (arith, c.if-level-eq0.false)) c.first_of_level.result c.first_of_level.ensures)
