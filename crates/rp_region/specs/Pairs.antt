-- Pairs of parts of two lists: the choice of pairs for tests, and the result for the first pair that passes.
use Rattle.std.specs.Prelude.{◌≡◌, ◌*◌, Bool, true, false, List, [], ◌∷◌, ◌++◌, length}
use Rattle.rp_geometry.specs.Geometry.{HalfSpace}
use Rattle.rp_geometry.specs.sets.Shape.{Part}
use Rattle.rp_geometry.specs.searches.ProofLine.{ProofLine}
use Rattle.rp_semantics.specs.Walk.{Walk, Work, pass, count_tests, strict_test, first_tester, ◌>>◌}
use Rattle.rp_semantics.specs.Form.{every_pair, near_pair, first_pair, common_in_full, common_nearby, touch_in_full, touch_nearby}

-- the choice of pairs for a test: those that may meet, or every pair
abbrev pub chosen_pair : Bool → (Part → Part → Bool) → Part → Part → Bool
chosen_pair true may_meet = may_meet
chosen_pair false may_meet = every_pair

-- the first pair that passes, of those that may meet, or of all; for all, as many tests are counted as there are pairs
abbrev pub first_pair_by : Bool → (Part → Part → Bool) → (List HalfSpace → Walk Work Bool) → List Part → List Part → Walk Work Bool
first_pair_by true may_meet test ps qs = first_pair may_meet test ps qs
first_pair_by false may_meet test ps qs = do
  count_tests (length ps * length qs)
  first_pair every_pair test ps qs

-- whether two lists share a member: by the pairs whose boxes meet, or by all pairs
abbrev pub common_by : Bool → List Part → List Part → Walk Work Bool
common_by true ps qs = common_nearby first_tester ps qs
common_by false ps qs = common_in_full first_tester ps qs

-- whether two lists are in contact: by the pairs whose closed boxes meet, or by all pairs
abbrev pub touch_by : Bool → List Part → List Part → Walk Work Bool
touch_by true ps qs = touch_nearby first_tester ps qs
touch_by false ps qs = touch_in_full first_tester ps qs

-- whether two parts share a member: if their boxes meet, one test is counted and made; otherwise none
abbrev pub meet_if_near : Part → Part → Walk Work Bool
meet_if_near p q = elim (near_pair p q) [
  | false ↦ pass false
  | true ↦ do
    count_tests 1
    strict_test (p.cell ++ q.cell)
]

-- the line is the last one
pub record IsLast (line : ProofLine) (lines : List ProofLine) : Type 0 where
  pub before : List ProofLine
  pub is : lines ≡ before ++ line ∷ []
