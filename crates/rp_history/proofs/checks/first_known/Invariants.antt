use Rattle.std.proofs.Common.{drop}
use Rattle.rp_history.proofs.Repeated.{AreSeen}
use Rattle.rp_history.proofs.checks.first_known.Given as goal

-- the ids looked at are kept, and the check of the others is left
abbrev pub invariant-loop-id : goal.invariant-loop-id
invariant-loop-id l = AreSeen l.before.keys (drop l.id-index l.ids) l.ids
