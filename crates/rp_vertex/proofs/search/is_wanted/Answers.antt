use Rattle.rp_vertex.proofs.search.is_wanted.Goals as goal

pub returns-in-Lifting : goal.returns-in-Lifting
returns-in-Lifting c = rw c.in-Lifting.is c.is_lifting.ensures
