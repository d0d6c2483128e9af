use Rattle.rp_lots.proofs.births.add_born.Goals as goal

pub returns-clause-births : goal.returns-clause-births
returns-clause-births g c =
    let born = c.in_ok-born_of.ensures in
    (c.in_ok-born_of.field-0, c.in_ok-push.ensures.ok, born.0, born.1, born.2)
