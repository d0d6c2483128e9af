use Rattle.std.proofs.Common.{◌+◌, ◌*◌, max}
use Rattle.rp_command.proofs.command.Expr.TheLaws.{the_size}
use Rattle.rp_eval.proofs.form.+forms.Given as goal

abbrev pub decreases-formed : goal.decreases-formed
decreases-formed g l = 2 * the_size l.region.now

-- above the forms of both
abbrev pub decreases-pair_formed : goal.decreases-pair_formed
decreases-pair_formed g l = 2 * max (the_size l.first.now) (the_size l.second.now) + 1
