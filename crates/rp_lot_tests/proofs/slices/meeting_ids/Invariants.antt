use Rattle.rp_lot_tests.proofs.slices.meeting_ids.Given as goal

abbrev pub ghosts-search : goal.ghosts-search
ghosts-search g a = record { name = a.blank.name; parts = a.blank.parts }
