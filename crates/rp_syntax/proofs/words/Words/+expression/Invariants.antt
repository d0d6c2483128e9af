use Rattle.std.proofs.Common.{◌+◌, ◌*◌}
use Rattle.rp_syntax.proofs.words.Words.+expression.Given as goal

abbrev pub decreases-expression_within : goal.decreases-expression_within
decreases-expression_within l = 5 * l.room

abbrev pub decreases-operand : goal.decreases-operand
decreases-operand l = 5 * l.room + 1

abbrev pub decreases-operands : goal.decreases-operands
decreases-operands l = 5 * l.room + 2

abbrev pub decreases-intersection : goal.decreases-intersection
decreases-intersection l = 5 * l.room + 3

abbrev pub decreases-union : goal.decreases-union
decreases-union l = 5 * l.room + 3

abbrev pub decreases-difference : goal.decreases-difference
decreases-difference l = 5 * l.room + 3

abbrev pub decreases-behind : goal.decreases-behind
decreases-behind l = 5 * l.room + 4
