use Rattle.std.proofs.Common.{◌≡◌, ◌+◌, ◌*◌, ◌≤◌, map, drop}
use Rattle.std.specs.List.{AllByRecursion}
use Rattle.rp_semantics.specs.Form.{near_pair}
use Rattle.rp_model.specs.commands.Subdivide.{child_parts}
use Rattle.rp_model.specs.commands.Parts.{count_among}
use Rattle.rp_subdivide.specs.Children.{formed_child, IsShort}
use Rattle.rp_subdivide.proofs.children.count_near.Given as goal

-- the pairs of the children still to come are not counted yet
abbrev pub invariant-loop-place : goal.invariant-loop-place
invariant-loop-place g l = (l.pairs + count_among near_pair (child_parts (map (formed_child g.T.Oracle.parts_of) (drop l.place l.children))) ≡ count_among near_pair (child_parts (map (formed_child g.T.Oracle.parts_of) l.children))) × (l.pairs ≤ 1073741824 * l.place) × AllByRecursion (IsShort g.T.Oracle.parts_of) (drop l.place l.children)
