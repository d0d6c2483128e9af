-- The rest of the row of a question about lots after its tests are counted: tests of pairs of lots.
use Rattle.std.specs.Prelude.{◌≡◌, ◌<◌, ◌≤◌, Bool, List, [], length, Result, Ok, Err}
use Rattle.std.specs.List.{AllByRecursion}
use Rattle.rp_geometry.specs.sets.Shape.{Part}
use Rattle.rp_language.specs.Name.{Label}
use Rattle.rp_semantics.specs.Walk.{Outcome, done, Walk, Tester, pass, after_first, ◌>>◌}
use Rattle.rp_model.specs.states.State.{Lot, place_among, most_kept_parts}
use Rattle.rp_model.specs.commands.Verdict.{neighbour_lines}
use Rattle.rp_model.specs.commands.Reply.{Reply, reply_lines}
use Rattle.rp_model.specs.commands.Parts.{lot_parts}
use Rattle.rp_model.specs.commands.Neighbours.{touched_lots}
use Rattle.rp_model.specs.commands.Access.{access_by_links}
use Rattle.rp_proximity.specs.declared.reach.Reach.TheVariants.{Touch}
use Rattle.rp_proximity.specs.Near.{pairs_with}
use Rattle.rp_answer.specs.declared.reply.RowEnd.{RowEnd}
use Rattle.rp_answer.specs.Replies.{EndsBy}
use Rattle.rp_oracle.specs.declared.stopped.Stopped.{Stopped}
use Rattle.rp_oracle.specs.Refines.{StopsBy}
use Rattle.rp_contacts.specs.declared.links.AccessLeft.{AccessLeft}
use Rattle.rp_contacts.specs.declared.touching.TouchLeft.{TouchLeft}
use Rattle.rp_contacts.specs.Meets.{meet_each, contact_ids}
use Rattle.rp_contacts.specs.Numbers.{AreBelow, links_met}

-- the row has the reply of the result, as the model sees it, or its end, with the given work
abbrev pub Answers : {W A : Type 0} → (A → Reply) → Result A RowEnd → W → Outcome W Reply → Type 0
Answers view (Ok x) w o = o ≡ done (view x) w
Answers view (Err e) w o = EndsBy e w o

-- counts the pairs of parts whose boxes share a point, and then finds the lots in contact
abbrev pub touch_counted : {W S : Type 0} → Tester W → List Part → List (Lot S) → Walk W (List Label)
touch_counted tester ps lots = do
  tester.count (pairs_with Touch ps lots)
  touched_lots tester [] ps lots

-- the rest of a walk that finds the lots in contact: tests of pairs; or the walk is stopped
abbrev pub LeavesPairs : {W S : Type 0} → Result TouchLeft Stopped → List (Lot S) → Tester W → W → Outcome W (List Label) → Type 0
LeavesPairs (Ok left) lots tester w o = o ≡ after_first (λ met. pass (contact_ids lots left.places.items met)) (meet_each tester Touch (lot_parts lots) [] left.pairs.items w)
LeavesPairs (Err e) lots tester w o = StopsBy e w o

-- the reply with the ids of the lots at some places that meet
abbrev pub contacts_reply : {S : Type 0} → List (Lot S) → TouchLeft → List Bool → Reply
contacts_reply lots left met = reply_lines (neighbour_lines (contact_ids lots left.places.items met))

-- the rest of the row of neighbours: tests of pairs, and the reply with the lots that meet; or the row ends
abbrev pub LeavesContacts : {W S : Type 0} → Result TouchLeft RowEnd → List (Lot S) → Tester W → W → Outcome W Reply → Type 0
LeavesContacts (Ok left) lots tester w o = o ≡ after_first (λ met. pass (contacts_reply lots left met)) (meet_each tester Touch (lot_parts lots) [] left.pairs.items w)
LeavesContacts (Err e) lots tester w o = EndsBy e w o

-- the rest of access is consistent: few ids, both given lots among them, and one pair of numbers for each pair of places
pub record IsReady (left : AccessLeft) : Type 0 where
  pub few : length left.ids.items ≤ most_kept_parts
  pub below : AllByRecursion (AreBelow (length left.ids.items)) left.numbers.items
  pub each : length left.numbers.items ≡ length left.pairs.items
  pub from_there : place_among left.from left.ids.items < length left.ids.items
  pub to_there : place_among left.to left.ids.items < length left.ids.items

-- the reply of access, from the pairs that meet
abbrev pub access_reply : AccessLeft → List Bool → Reply
access_reply left met = reply_lines (access_by_links left.ids.items (links_met left.numbers.items met) left.from left.to)

-- the rest of the row of access after its checks: tests of pairs, and the reply from those that meet; or the row is stopped
abbrev pub LeavesAccess : {W S : Type 0} → Result AccessLeft Stopped → List (Lot S) → Tester W → W → Outcome W Reply → Type 0
LeavesAccess (Ok left) lots tester w o = o ≡ after_first (λ met. pass (access_reply left met)) (meet_each tester Touch (lot_parts lots) [] left.pairs.items w)
LeavesAccess (Err e) lots tester w o = StopsBy e w o

-- the rest of the row of access: tests of pairs, and the reply from those that meet; or the row ends, also by its checks
abbrev pub LeavesLinks : {W S : Type 0} → Result AccessLeft RowEnd → List (Lot S) → Tester W → W → Outcome W Reply → Type 0
LeavesLinks (Ok left) lots tester w o = o ≡ after_first (λ met. pass (access_reply left met)) (meet_each tester Touch (lot_parts lots) [] left.pairs.items w)
LeavesLinks (Err e) lots tester w o = EndsBy e w o
