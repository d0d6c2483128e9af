use Rattle.std.proofs.Common.{◌≡◌, ◌++◌, drop}
use Rattle.rp_model.specs.commands.Verdict.{level_lines}
use Rattle.rp_rows.specs.Access.{told_levels}
use Rattle.rp_rows.proofs.numbered.named_levels.Given as goal

-- the levels of the ids still to come are left
abbrev pub invariant-loop-number : goal.invariant-loop-number
invariant-loop-number l = told_levels l.told.items ++ level_lines (drop l.number l.ids) (drop l.number l.levels) ≡ level_lines l.ids l.levels
