use Rattle.rp_lot_tests.proofs.boxindex.few_nodes_are_visited_in_a_street.Given as goal

abbrev pub ghosts-search : goal.ghosts-search
ghosts-search g a = record { name = a.blank.name; parts = a.blank.parts }
