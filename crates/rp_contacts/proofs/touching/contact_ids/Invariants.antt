use Rattle.std.proofs.Common.{◌≡◌, ◌++◌, ◌≤◌, map, drop, length}
use Rattle.rp_history.specs.Lots.{lot_of}
use Rattle.rp_contacts.specs.Meets.{contact_ids}
use Rattle.rp_contacts.proofs.touching.contact_ids.Given as goal

-- the ids of the places still to come are left
abbrev pub invariant-loop-i : goal.invariant-loop-i
invariant-loop-i l =
    (l.ids.items ++ contact_ids (map lot_of l.lots) (drop l.i l.places) (drop l.i l.met) ≡ contact_ids (map lot_of l.lots) l.places l.met)
    × (length l.ids.items ≤ l.i)
