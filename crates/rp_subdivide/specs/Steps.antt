-- The steps of a subdivision, each with the rest after it.
use Rattle.std.specs.Prelude.{◌+◌, not, List, map, length}
use Rattle.rp_geometry.specs.sets.Shape.{Part}
use Rattle.rp_language.specs.Name.{Label}
use Rattle.rp_semantics.specs.Walk.{Walk, Tester, ◌>>=◌, ◌>>◌}
use Rattle.rp_semantics.specs.Form.{near_pair}
use Rattle.rp_semantics.specs.Compare.{is_covered}
use Rattle.rp_model.specs.states.State.{PlainState, parts_under_lots, most_kept_parts}
use Rattle.rp_model.specs.commands.Verdict.{gap}
use Rattle.rp_model.specs.commands.Checks.{refuse_if, and_then, check_subdivide}
use Rattle.rp_model.specs.commands.Reply.{Reply, check, check_size}
use Rattle.rp_model.specs.commands.Subdivide.{FormedChild, child_parts, first_empty_child, first_outside_child, first_overlapping_children}
use Rattle.rp_model.specs.commands.Parts.{joined_parts, count_among}

-- the checks of children: names, a part in each child, and room
abbrev pub children_checked : {W : Type 0} → PlainState → Label → List FormedChild → Walk W Reply → Walk W Reply
children_checked s x cs rest = check (and_then (check_subdivide s x (map (λ c. c.id) cs)) (first_empty_child 1 cs)) (check_size (parts_under_lots s.lots + length (joined_parts (child_parts cs))) most_kept_parts >> rest)

-- the tests that the children are within the parts
abbrev pub inside_tested : {W : Type 0} → Tester W → List Part → List FormedChild → Walk W Reply → Walk W Reply
inside_tested tester qs cs rest = first_outside_child tester qs 1 cs >>= λ out. check out rest

-- the count of their pairs, and the tests that no two children share a member
abbrev pub apart_tested : {W : Type 0} → Tester W → List FormedChild → Walk W Reply → Walk W Reply
apart_tested tester cs rest = tester.count (count_among near_pair (child_parts cs)) >> (first_overlapping_children tester 1 cs >>= λ double. check double rest)

-- the tests that the children leave no gap in the parts
abbrev pub cover_tested : {W : Type 0} → Tester W → List Part → List FormedChild → Walk W Reply → Walk W Reply
cover_tested tester qs cs rest = is_covered tester qs (joined_parts (child_parts cs)) >>= λ covered. check (refuse_if (not covered) gap) rest
