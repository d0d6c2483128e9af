use Rattle.std.proofs.Common.{◌≡◌, ◌+◌, map, drop}
use Rattle.rp_model.specs.commands.Subdivide.{first_overlapping_children}
use Rattle.rp_subdivide.specs.Children.{formed_child}
use Rattle.rp_subdivide.proofs.children.first_overlapping.Given as goal

-- the children still to come are left
abbrev pub invariant-loop-place : goal.invariant-loop-place
invariant-loop-place g l = first_overlapping_children g.T.Oracle.tester (l.place + 1) (map (formed_child g.T.Oracle.parts_of) (drop l.place l.children)) l.tests ≡ first_overlapping_children g.T.Oracle.tester 1 (map (formed_child g.T.Oracle.parts_of) l.children) l.fn.tests
