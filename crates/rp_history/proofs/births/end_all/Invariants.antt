use Rattle.std.proofs.Common.{◌≡◌, ◌≤◌, map, drop}
use Rattle.rp_model.specs.states.State.{ended_at}
use Rattle.rp_history.proofs.births.end_all.Given as goal

-- the lots with the ids still to come end
abbrev pub invariant-loop-id : goal.invariant-loop-id
invariant-loop-id l = (map (ended_at l.line (drop l.id-index l.ids)) l.list.lots ≡ map (ended_at l.line l.ids) l.fn.list.lots) × (l.fn.list.spare ≤ l.list.spare)
