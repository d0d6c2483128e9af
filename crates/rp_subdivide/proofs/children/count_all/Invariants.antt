use Rattle.std.proofs.Common.{◌≡◌, ◌+◌, ◌*◌, ◌≤◌, length, map, drop}
use Rattle.std.specs.List.{AllByRecursion}
use Rattle.rp_model.specs.commands.Subdivide.{child_parts}
use Rattle.rp_model.specs.commands.Parts.{joined_parts}
use Rattle.rp_subdivide.specs.Children.{formed_child, IsShort}
use Rattle.rp_subdivide.proofs.children.count_all.Given as goal

-- the parts of the children still to come are not counted yet
abbrev pub invariant-loop-child : goal.invariant-loop-child
invariant-loop-child g l = (l.count + length (joined_parts (child_parts (map (formed_child g.T.Oracle.parts_of) (drop l.child-index l.children)))) ≡ length (joined_parts (child_parts (map (formed_child g.T.Oracle.parts_of) l.children)))) × (l.count ≤ 1024 * l.child-index) × AllByRecursion (IsShort g.T.Oracle.parts_of) (drop l.child-index l.children)
