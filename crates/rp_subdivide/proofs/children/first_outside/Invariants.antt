use Rattle.std.proofs.Common.{◌≡◌, ◌+◌, map, drop}
use Rattle.rp_model.specs.commands.Subdivide.{first_outside_child}
use Rattle.rp_subdivide.specs.Children.{formed_child}
use Rattle.rp_subdivide.proofs.children.first_outside.Given as goal

-- the children still to come are left
abbrev pub invariant-loop-child : goal.invariant-loop-child
invariant-loop-child g l = (first_outside_child g.T.Oracle.tester (g.T.Oracle.parts_of l.whole) l.number (map (formed_child g.T.Oracle.parts_of) (drop l.child-index l.children)) l.tests ≡ first_outside_child g.T.Oracle.tester (g.T.Oracle.parts_of l.whole) 1 (map (formed_child g.T.Oracle.parts_of) l.children) l.fn.tests) × (l.number ≡ l.child-index + 1)
