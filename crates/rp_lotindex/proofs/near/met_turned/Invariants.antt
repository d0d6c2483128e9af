use Rattle.rp_lotindex.proofs.near.met_turned.Given as goal

-- the ledger of the count of steps
abbrev pub ghosts-met_by : goal.ghosts-met_by
ghosts-met_by g a = record { name = a.blank.name; parts = a.blank.parts }
