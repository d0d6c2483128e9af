use Rattle.std.proofs.Common.{◌≡◌, map, take}
use Rattle.rp_subdivide.specs.Children.{formed_child}
use Rattle.rp_subdivide.proofs.children.child_ids.Given as goal

-- there is an id of each child so far
abbrev pub invariant-loop-child : goal.invariant-loop-child
invariant-loop-child g l = l.ids.items ≡ map (λ c. c.id) (map (formed_child g.T.Oracle.parts_of) (take l.child-index l.children))
