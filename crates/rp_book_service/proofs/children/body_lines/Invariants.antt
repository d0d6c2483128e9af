use Rattle.std.proofs.Common.{◌≡◌, ◌++◌, map, length}
use Rattle.rp_reports.specs.Report.{script_lines}
use Rattle.rp_book_service.proofs.children.body_lines.Given as goal

-- the lines so far and those of the rest are the lines of the body
abbrev pub invariant-loop-line : goal.invariant-loop-line
invariant-loop-line l = map (λ line. line.now) l.lines.items ++ script_lines l.rest ≡ script_lines l.body

abbrev pub decreases-loop-line : goal.decreases-loop-line
decreases-loop-line l = length l.rest
