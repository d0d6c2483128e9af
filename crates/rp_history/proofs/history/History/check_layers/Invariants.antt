use Rattle.std.proofs.Common.{◌≡◌, drop, None}
use Rattle.rp_model.specs.commands.Checks.{check_live, check_layer, check_each}
use Rattle.rp_history.specs.Checks.{InEach}
use Rattle.rp_history.proofs.history.History.check_layers.Given as goal

-- the checks of the ids still to come are left, and these ids are live
abbrev pub invariant-loop-id : goal.invariant-loop-id
invariant-loop-id l = InEach l.self (λ s.
    (check_each (check_layer s l.layer) (drop l.id-index l.ids) ≡ check_each (check_layer s l.layer) l.ids)
    × (check_each (check_live s) (drop l.id-index l.ids) ≡ None))
