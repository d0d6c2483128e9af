use Rattle.std.proofs.Common.{◌≡◌, ◌++◌}
use Rattle.std.specs.Vec.Iter.{into_iter_items}
use Rattle.rp_unionfind.proofs.groups.listed.Given as goal

-- the groups so far are listed, and the others are still to come
abbrev pub invariant-loop-group : goal.invariant-loop-group
invariant-loop-group l = l.list.items ++ into_iter_items l.group-iterator ≡ l.fn.groups.items
