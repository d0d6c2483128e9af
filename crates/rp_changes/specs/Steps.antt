-- The steps of a registration and of a cut, each with the rest after it.
use Rattle.std.specs.Prelude.{ℕ, ◌+◌, ◌==◌, List, length, option_map}
use Rattle.rp_geometry.specs.sets.Shape.{Part}
use Rattle.rp_language.specs.Name.{Label}
use Rattle.rp_semantics.specs.Walk.{Walk, Tester, ◌>>=◌, ◌>>◌}
use Rattle.rp_semantics.specs.Form.{near_pair}
use Rattle.rp_model.specs.states.State.{Lot, PlainState, parts_under_lots, most_kept_parts}
use Rattle.rp_model.specs.commands.Verdict.{empty, empty_side, overlaps}
use Rattle.rp_model.specs.commands.Checks.{refuse_if, and_then, check_new}
use Rattle.rp_model.specs.commands.Reply.{Reply, check, check_size}
use Rattle.rp_model.specs.commands.Parts.{lot_parts, count_with_each}
use Rattle.rp_model.specs.commands.Register.{first_overlapped}

-- the checks of a registration: a new id, a part, and room
abbrev pub lot_checked : {W : Type 0} → PlainState → Label → List Part → Walk W Reply → Walk W Reply
lot_checked s x ps rest = check (and_then (check_new s x) (refuse_if (length ps == 0) empty)) (check_size (parts_under_lots s.lots + length ps) most_kept_parts >> rest)

-- the count of pairs with some lots, and the tests that none of these lots shares a member with the parts
abbrev pub lots_tested : {W : Type 0} → Tester W → List Part → List (Lot (Unit {0})) → Walk W Reply → Walk W Reply
lots_tested tester ps lots rest = tester.count (count_with_each near_pair ps (lot_parts lots)) >> (first_overlapped tester ps lots >>= λ found. check (option_map overlaps found) rest)

-- makes one side of a cut, and refuses it by its number if it has no part
abbrev pub with_side : {W : Type 0} → ℕ → Walk W (List Part) → (List Part → Walk W Reply) → Walk W Reply
with_side n side next = side >>= λ ps. check (refuse_if (length ps == 0) (empty_side n)) (next ps)
