use Rattle.std.proofs.Common.{arith}
use Rattle.std.proofs.lemmas.Grind.{common_steps}
use Rattle.rp_cert.proofs.Shown.{member_shown}
use Rattle.rp_cert.proofs.inside.check_inside.Goals as goal

pub returns-then-are_reached-clause-value : goal.returns-then-are_reached-clause-value
returns-then-are_reached-clause-value c = grind (arith, common_steps)

pub returns-then-are_reached-clause-member : goal.returns-then-are_reached-clause-member
returns-then-are_reached-clause-member c = member_shown c.args.cell.now c.args.points.now c.are_reached-then-are_reached.result (returns-then-are_reached-clause-value c)
