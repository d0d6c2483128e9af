-- The tests that pairs of lots share no member.
use Rattle.std.specs.Prelude.{◌≡◌, true, false, List, [], ◌∷◌, get_or, Result, Ok, Err}
use Rattle.rp_geometry.specs.sets.Shape.{Part}
use Rattle.rp_semantics.specs.Walk.{taken_wrong, Outcome, Walk, Tester, pass, stop, after_first, ◌>>=◌}
use Rattle.rp_semantics.specs.Form.{common_nearby}
use Rattle.rp_model.specs.states.State.{Lot}
use Rattle.rp_model.specs.commands.Verdict.{clear}
use Rattle.rp_model.specs.commands.Reply.{Reply, reply}
use Rattle.rp_model.specs.commands.Parts.{lot_parts}
use Rattle.rp_oracle.specs.declared.stopped.Stopped.{Stopped}
use Rattle.rp_oracle.specs.Refines.{StopsBy}
use Rattle.rp_contacts.specs.declared.pair.Pair.{Pair}
use Rattle.rp_contacts.specs.declared.audit.AuditLeft.{AuditLeft}

-- tests that the two lots of each pair share no member; a common member stops the walk, as a wrong line of the report
abbrev pub apart_each : {W : Type 0} → Tester W → List (List Part) → List Pair → Walk W (Unit {0})
apart_each tester lists [] = pass tt
apart_each tester lists (p ∷ ps) = do
  found ← common_nearby tester (get_or lists p.first []) (get_or lists p.second [])
  elim found [ true ↦ stop taken_wrong | false ↦ apart_each tester lists ps ]

-- the rest of the row of an audit: tests of pairs, of which none may meet, and the reply with the number of live lots; or the row is stopped
abbrev pub LeavesAudit : {W S : Type 0} → Result AuditLeft Stopped → List (Lot S) → Tester W → W → Outcome W Reply → Type 0
LeavesAudit (Ok left) lots tester w o = o ≡ after_first (λ _. pass (reply (clear left.live))) (apart_each tester (lot_parts lots) left.pairs.items w)
LeavesAudit (Err e) lots tester w o = StopsBy e w o
