use Rattle.std.proofs.Common.{◌≡◌, ◌-◌}
use Rattle.rp_space.specs.Boxes.{integer_box}
use Rattle.rp_lotindex.specs.Owner.{boxes_past, first_in}
use Rattle.rp_lotindex.specs.Stretches.{stretches_from, stretches_with}
use Rattle.rp_lotindex.proofs.owner.first_past.Given as goal

-- the stretches still to come are left
abbrev pub invariant-loop-level : goal.invariant-loop-level
invariant-loop-level g l =
    first_in (g.C.Choice.passes l.choice) l.index (boxes_past (integer_box l.unit) (stretches_from (32 - l.level) l.level l.mark)) l.first
    ≡ first_in (g.C.Choice.passes l.choice) l.index (boxes_past (integer_box l.unit) (stretches_with l.line)) l.fn.live
