use Rattle.std.proofs.Common.{◌≡◌, ◌+◌, drop}
use Rattle.rp_model.specs.states.State.{place_among}
use Rattle.rp_rows.proofs.numbered.number_of.Given as goal

-- the id stands at none of the numbers so far
abbrev pub invariant-loop-number : goal.invariant-loop-number
invariant-loop-number l = l.number + place_among l.id (drop l.number l.ids) ≡ place_among l.id l.ids
