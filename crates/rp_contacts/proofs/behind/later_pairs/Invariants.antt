use Rattle.std.proofs.Common.{◌≡◌, ◌+◌, ◌≤◌, ◌++◌, List, drop}
use Rattle.rp_semantics.specs.Walk.{most_tests}
use Rattle.rp_contacts.specs.declared.pair.Pair.{Pair}
use Rattle.rp_contacts.specs.Behind.{tests_behind, ArePairsBehind}
use Rattle.rp_contacts.proofs.behind.later_pairs.Given as goal

-- the tests and pairs of the places still to come are left
abbrev pub invariant-loop-place : goal.invariant-loop-place
invariant-loop-place g l = record {
  counted : l.tests + tests_behind l.reach (g.K.Keeper.state l.keeper).lots (drop l.place-index l.places) ≡ tests_behind l.reach (g.K.Keeper.state l.keeper).lots l.places;
  few : l.tests ≤ most_tests;
  paired : (more : List Pair) → ArePairsBehind l.reach (g.K.Keeper.state l.keeper).lots (drop l.place-index l.places) more → ArePairsBehind l.reach (g.K.Keeper.state l.keeper).lots l.places (l.pairs.items ++ more);
}
