use Rattle.std.proofs.Common.{◌≡◌, ◌+◌, map, drop}
use Rattle.rp_model.specs.commands.Subdivide.{first_empty_child}
use Rattle.rp_subdivide.specs.Children.{formed_child}
use Rattle.rp_subdivide.proofs.children.first_empty.Given as goal

-- the children still to come are left
abbrev pub invariant-loop-child : goal.invariant-loop-child
invariant-loop-child g l = (first_empty_child l.number (map (formed_child g.T.Oracle.parts_of) (drop l.child-index l.children)) ≡ first_empty_child 1 (map (formed_child g.T.Oracle.parts_of) l.children)) × (l.number ≡ l.child-index + 1)
