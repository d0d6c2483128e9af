use Rattle.rp_lotindex.proofs.owner.first_turned.Given as goal

-- the ledger of the count of steps
abbrev pub ghosts-first_that : goal.ghosts-first_that
ghosts-first_that g a = record { name = a.blank.name; parts = a.blank.parts }
