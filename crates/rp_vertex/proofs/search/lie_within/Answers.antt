use Rattle.rp_vertex.proofs.search.lie_within.Goals as goal

pub returns-in-Lifting : goal.returns-in-Lifting
returns-in-Lifting c = rw c.in-Lifting.is c.are_among.ensures
