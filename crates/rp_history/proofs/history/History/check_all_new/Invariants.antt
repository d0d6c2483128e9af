use Rattle.std.proofs.Common.{◌≡◌, drop}
use Rattle.rp_model.specs.commands.Checks.{check_new, check_each}
use Rattle.rp_history.specs.Checks.{InEach}
use Rattle.rp_history.proofs.history.History.check_all_new.Given as goal

-- the checks of the ids still to come are left
abbrev pub invariant-loop-id : goal.invariant-loop-id
invariant-loop-id l = InEach l.self (λ s. check_each (check_new s) (drop l.id-index l.ids) ≡ check_each (check_new s) l.ids)
