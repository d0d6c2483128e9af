-- The test of two parts together, and the choice of pairs of two lists.
use Rattle.std.specs.Prelude.{Bool, true, false, List}
use Rattle.rp_geometry.specs.Geometry.{HalfSpace}
use Rattle.rp_geometry.specs.sets.Shape.{Part}
use Rattle.rp_semantics.specs.Walk.{Walk}
use Rattle.rp_semantics.specs.Form.{every_pair, near_pair, touching_pair, common_in_full, common_nearby, touch_in_full, touch_nearby}
use Rattle.rp_reports.specs.Check.{Trail, follow_strict, follow_weak, line_tester}
use Rattle.rp_trail.specs.declared.meeting.Meeting.{Meeting}
use Rattle.rp_trail.specs.declared.meeting.Meeting.TheVariants.{Common, Touch}

-- the boxes of two parts let them meet
abbrev pub may_meet_by : Meeting → Part → Part → Bool
may_meet_by Common = near_pair
may_meet_by Touch = touching_pair

-- the test of two parts together
abbrev pub test_by : Meeting → List HalfSpace → Walk Trail Bool
test_by Common = follow_strict
test_by Touch = follow_weak

-- the choice of pairs for a test: those that may meet, or every pair
abbrev pub chosen_pair : Bool → (Part → Part → Bool) → Part → Part → Bool
chosen_pair true may_meet = may_meet
chosen_pair false may_meet = every_pair

-- whether two lists share a member: by the pairs whose boxes meet, or by all pairs
abbrev pub common_by : Bool → List Part → List Part → Walk Trail Bool
common_by true ps qs = common_nearby line_tester ps qs
common_by false ps qs = common_in_full line_tester ps qs

-- whether two lists are in contact: by the pairs whose closed boxes meet, or by all pairs
abbrev pub touch_by : Bool → List Part → List Part → Walk Trail Bool
touch_by true ps qs = touch_nearby line_tester ps qs
touch_by false ps qs = touch_in_full line_tester ps qs

-- the pair loop of either kind: by the pairs that may meet, or by all, with as many counted tests as there are pairs
abbrev pub meet_by : Meeting → Bool → List Part → List Part → Walk Trail Bool
meet_by Common near ps qs = common_by near ps qs
meet_by Touch near ps qs = touch_by near ps qs
