use Rattle.std.proofs.Common.{◌≡◌, ◌+◌, ◌*◌, ◌≤◌, map, drop}
use Rattle.std.specs.List.{AllByRecursion}
use Rattle.rp_semantics.specs.Form.{near_pair}
use Rattle.rp_model.specs.commands.Subdivide.{child_parts}
use Rattle.rp_model.specs.commands.Parts.{count_with_each}
use Rattle.rp_subdivide.specs.Children.{formed_child, IsShort}
use Rattle.rp_subdivide.proofs.children.count_near_with.Given as goal

-- the pairs with the children still to come are not counted yet
abbrev pub invariant-loop-other : goal.invariant-loop-other
invariant-loop-other g l = (l.pairs + count_with_each near_pair (g.T.Oracle.parts_of l.child.form) (child_parts (map (formed_child g.T.Oracle.parts_of) (drop l.other-index l.others))) ≡ count_with_each near_pair (g.T.Oracle.parts_of l.child.form) (child_parts (map (formed_child g.T.Oracle.parts_of) l.others))) × (l.pairs ≤ 1048576 * l.other-index) × AllByRecursion (IsShort g.T.Oracle.parts_of) (drop l.other-index l.others)
