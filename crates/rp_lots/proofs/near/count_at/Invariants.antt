use Rattle.std.proofs.Common.{◌≡◌, ◌+◌, ◌++◌, ◌≤◌, drop, filter, length}
use Rattle.rp_semantics.specs.Walk.{most_tests}
use Rattle.rp_proximity.specs.Near.{pairs_with, is_near, lots_at, AreWithin}
use Rattle.rp_lots.proofs.near.count_at.Given as goal

-- the pairs with the lots at the places still to come are not counted yet, and the near ones of these lots are left
abbrev pub invariant-loop-place : goal.invariant-loop-place
invariant-loop-place g l =
    let lots = (g.K.Keeper.state l.keeper).lots in
    let ps = g.T.Oracle.parts_of l.form in
    record {
      counted : l.near.pairs + pairs_with l.reach ps (lots_at lots (drop l.place-index l.places)) ≡ pairs_with l.reach ps (lots_at lots l.places);
      few : l.near.pairs ≤ most_tests;
      left : lots_at lots l.near.places.items ++ filter (is_near l.reach ps) (lots_at lots (drop l.place-index l.places)) ≡ filter (is_near l.reach ps) (lots_at lots l.places);
      within : AreWithin lots l.near.places.items;
      no_more : length l.near.places.items ≤ l.near.pairs;
    }
