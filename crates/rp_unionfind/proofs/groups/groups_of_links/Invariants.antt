use Rattle.rp_unionfind.specs.Lists.{lists_of}
use Rattle.rp_unionfind.proofs.Grouped.{IsGrouped}
use Rattle.rp_unionfind.proofs.groups.groups_of_links.Given as goal

-- the numbers so far are in groups
abbrev pub invariant-loop-before : goal.invariant-loop-before
invariant-loop-before l = IsGrouped l.links l.count l.parents.items l.before (lists_of l.groups.items) l.places.items
