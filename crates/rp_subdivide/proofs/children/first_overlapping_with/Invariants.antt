use Rattle.std.proofs.Common.{◌≡◌, ◌+◌, map, drop}
use Rattle.rp_model.specs.commands.Subdivide.{first_overlapping_child}
use Rattle.rp_subdivide.specs.Children.{formed_child}
use Rattle.rp_subdivide.proofs.children.first_overlapping_with.Given as goal

-- the children still to come are left
abbrev pub invariant-loop-other : goal.invariant-loop-other
invariant-loop-other g l = (first_overlapping_child g.T.Oracle.tester l.first (g.T.Oracle.parts_of l.child.form) l.number (map (formed_child g.T.Oracle.parts_of) (drop l.other-index l.behind)) l.tests ≡ first_overlapping_child g.T.Oracle.tester l.first (g.T.Oracle.parts_of l.child.form) (l.first + 1) (map (formed_child g.T.Oracle.parts_of) l.behind) l.fn.tests) × (l.number ≡ l.first + 1 + l.other-index)
