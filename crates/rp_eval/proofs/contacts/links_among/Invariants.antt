use Rattle.std.proofs.Common.{◌+◌, length, map, drop}
use Rattle.std.specs.List.{AllByRecursion}
use Rattle.rp_semantics.specs.Pieces.{numbered_from, links_among}
use Rattle.rp_oracle.proofs.Left.{IsLeft}
use Rattle.rp_unionfind.specs.Lists.{IsWithin}
use Rattle.rp_eval.proofs.contacts.links_among.Given as goal

-- the parts still to come are left, and the links found so far are of parts of the list
abbrev pub invariant-loop-place : goal.invariant-loop-place
invariant-loop-place g l =
    let seen = g.T.Oracle.seen in
    IsLeft l.initial.tests (links_among g.T.Oracle.tester l.initial.links.items (numbered_from 1 (map seen l.parts)))
    l.tests (links_among g.T.Oracle.tester l.links.items (numbered_from (l.place + 1) (map seen (drop l.place l.parts))))
    × AllByRecursion (IsWithin (length l.parts)) l.links.items
