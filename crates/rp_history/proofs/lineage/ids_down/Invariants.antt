use Rattle.std.proofs.Common.{ℕ}
use Rattle.rp_history.proofs.Descended.{AreWanted, end_of}
use Rattle.rp_history.proofs.lineage.ids_down.Given as goal

-- the lots from a place on were looked at, and the wanted ones before it are pending
abbrev pub invariant-loop-place : goal.invariant-loop-place
invariant-loop-place l = (p : ℕ) × AreWanted l.id l.history p l.pending.keys l.ids.items

abbrev pub decreases-loop-place : goal.decreases-loop-place
decreases-loop-place l = end_of l.pending.keys
