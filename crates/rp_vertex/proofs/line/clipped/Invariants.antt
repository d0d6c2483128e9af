use Rattle.rp_vertex.specs.Line.{IsSpan}
use Rattle.rp_vertex.proofs.line.clipped.Given as goal

-- the ends hold between them what is left
abbrev pub invariant-loop-rank : goal.invariant-loop-rank
invariant-loop-rank l = IsSpan l.system l.pair l.span
