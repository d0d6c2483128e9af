use Rattle.std.proofs.Common.{◌+◌, length, map, drop}
use Rattle.std.specs.List.{AllByRecursion}
use Rattle.rp_semantics.specs.Pieces.{numbered_from, links_with_part}
use Rattle.rp_oracle.proofs.Left.{IsLeft}
use Rattle.rp_unionfind.specs.Lists.{IsWithin}
use Rattle.rp_eval.proofs.contacts.links_with_part.Given as goal

-- the parts still to come are left, and the links found so far are of parts of the list
abbrev pub invariant-loop-place : goal.invariant-loop-place
invariant-loop-place g l =
    let seen = g.T.Oracle.seen in
    IsLeft l.initial.tests (links_with_part g.T.Oracle.tester l.initial.links.items (l.number, seen l.part) (numbered_from (l.number + 1) (map seen l.others)))
    l.tests (links_with_part g.T.Oracle.tester l.links.items (l.number, seen l.part) (numbered_from (l.number + 1 + l.place) (map seen (drop l.place l.others))))
    × AllByRecursion (IsWithin (l.number + length l.others)) l.links.items
