use Rattle.rp_vertex.proofs.Span.{cut_one}
use Rattle.rp_vertex.proofs.line.cut_one.Goals as goal

pub returns-in-Some : goal.returns-in-Some
returns-in-Some c = λ system listed k.
    cut_one system c.args.pair.now c.args.span.now c.args.h.now c.in-Some.end listed k c.requires.one c.requires.two
    (record { point = c.in-Some.ensures.point; is = c.in-Some.ensures.in_lowest_terms })
