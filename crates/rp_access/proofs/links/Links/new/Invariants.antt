use Rattle.std.proofs.Common.{◌≡◌, [], replicate}
use Rattle.rp_access.proofs.links.Links.new.Given as goal

abbrev pub invariant-loop : goal.invariant-loop
invariant-loop l = l.lists.items ≡ replicate l.counter []
