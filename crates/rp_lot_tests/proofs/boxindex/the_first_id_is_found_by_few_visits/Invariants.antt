use Rattle.rp_lot_tests.proofs.boxindex.the_first_id_is_found_by_few_visits.Given as goal

abbrev pub ghosts-first : goal.ghosts-first
ghosts-first g a = record { name = a.blank.name; parts = a.blank.parts }
