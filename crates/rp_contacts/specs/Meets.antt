-- Pairs of lots, and the tests which of them meet.
use Rattle.std.specs.Prelude.{ℕ, ◌<◌, Bool, List, [], ◌∷◌, ◌++◌, length, get_or, Some, None, slice_get, cond}
use Rattle.rp_geometry.specs.sets.Shape.{Part}
use Rattle.rp_language.specs.Name.{Label}
use Rattle.rp_semantics.specs.Walk.{Walk, Tester, pass, ◌>>=◌}
use Rattle.rp_semantics.specs.Form.{common_nearby, touch_nearby}
use Rattle.rp_model.specs.states.State.{Lot}
use Rattle.rp_model.specs.commands.Parts.{lot_parts}
use Rattle.rp_proximity.specs.declared.reach.Reach.{Reach}
use Rattle.rp_proximity.specs.declared.reach.Reach.TheVariants.{Overlap, Touch}
use Rattle.rp_contacts.specs.declared.pair.Pair.{Pair}

-- the pair of two lots, by their places
abbrev pub pair_of : ℕ → ℕ → Pair
pair_of j k = record { first = j; second = k }

-- both places of a pair are within the list
abbrev pub IsPairWithin : {A : Type 0} → List A → Pair → Type 0
IsPairWithin xs p = (p.first < length xs) × (p.second < length xs)

-- the tests of two lists of parts: of the pairs whose boxes let them meet, up to the first that does
abbrev pub pair_test : {W : Type 0} → Tester W → Reach → List Part → List Part → Walk W Bool
pair_test tester Overlap ps qs = common_nearby tester ps qs
pair_test tester Touch ps qs = touch_nearby tester ps qs

-- appends the answer for one more pair to the answers so far
abbrev pub meet_pair : {W : Type 0} → Tester W → Reach → List (List Part) → List Bool → Pair → Walk W (List Bool)
meet_pair tester r lists found p = do
  meets ← pair_test tester r (get_or lists p.first []) (get_or lists p.second [])
  pass (found ++ meets ∷ [])

-- appends the answers for further pairs to the answers so far
abbrev pub meet_each : {W : Type 0} → Tester W → Reach → List (List Part) → List Bool → List Pair → Walk W (List Bool)
meet_each tester r lists found [] = pass found
meet_each tester r lists found (p ∷ ps) = do
  more ← meet_pair tester r lists found p
  meet_each tester r lists more ps

-- the parts of the lot at a place
abbrev pub parts_at : {S : Type 0} → List (Lot S) → ℕ → List Part
parts_at lots k = get_or (lot_parts lots) k []

-- the id of the lot at a place
abbrev pub id_at : {S : Type 0} → List (Lot S) → ℕ → Label
id_at lots k = elim (slice_get lots k) [ None ↦ [] | Some l ↦ l.id ]

-- the ids of those lots, at some places, that meet
abbrev pub contact_ids : {S : Type 0} → List (Lot S) → List ℕ → List Bool → List Label
contact_ids lots [] met = []
contact_ids lots (k ∷ ks) [] = []
contact_ids lots (k ∷ ks) (b ∷ met) = cond b (id_at lots k ∷ contact_ids lots ks met) (contact_ids lots ks met)
