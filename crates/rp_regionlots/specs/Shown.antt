-- Pairs of lots, and the results of the tests of each pair.
use Rattle.std.specs.Prelude.{◌≡◌, ℕ, ◌<◌, Bool, false, List, [], ◌∷◌, length, get_or}
use Rattle.rp_geometry.specs.sets.Shape.{Part}
use Rattle.rp_semantics.specs.Walk.{Outcome, done, stopped, Walk, Work, no_work, with_lines, first_tester}
use Rattle.rp_region.specs.Makes.{work_after}
use Rattle.rp_proximity.specs.declared.reach.Reach.{Reach}
use Rattle.rp_contacts.specs.declared.pair.Pair.{Pair}
use Rattle.rp_contacts.specs.Meets.{pair_of, IsPairWithin, pair_test as tests_of_pair}
use Rattle.rp_regionlots.specs.declared.halves.Shown.{Shown}

-- the tests of two lists of parts: of the pairs whose boxes let them meet, up to the first that does
abbrev pub pair_test : Reach → List Part → List Part → Walk Work Bool
pair_test r ps qs = tests_of_pair first_tester r ps qs

-- the test passed
abbrev pub is_passed : Outcome Work Bool → Bool
is_passed (done b w) = b
is_passed (stopped s w) = false

-- the result of the tests of two lists of parts
abbrev pub shown_of : Reach → List Part → List Part → Shown
shown_of r ps qs = record { meets = is_passed (pair_test r ps qs no_work); work = work_after (pair_test r ps qs no_work) }

-- the result of the tests of a pair
abbrev pub shown : Reach → List (List Part) → Pair → Shown
shown r lists p = shown_of r (get_or lists p.first []) (get_or lists p.second [])

-- the result of the tests of the pair with index i
abbrev pub shown_at : Reach → List (List Part) → List Pair → ℕ → Shown
shown_at r lists ps i = shown r lists (get_or ps i (pair_of 0 0))

-- the places of all pairs are within the list
abbrev pub ArePairsWithin : {A : Type 0} → List A → List Pair → Type 0
ArePairsWithin xs ps = (i : ℕ) → i < length ps → IsPairWithin xs (get_or ps i (pair_of 0 0))

-- the tests of a pair count nothing
abbrev pub ShowsNothingCounted : Shown → Type 0
ShowsNothingCounted s = s.work.tests ≡ 0

-- the work with the lines of all pairs, in order
abbrev pub with_all_shown : Work → List Shown → Work
with_all_shown w [] = w
with_all_shown w (s ∷ all) = with_all_shown (with_lines w s.work.proofs) all
