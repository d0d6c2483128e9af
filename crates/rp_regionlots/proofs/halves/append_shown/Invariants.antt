use Rattle.std.proofs.Common.{◌≡◌, ◌≤◌}
use Rattle.std.specs.Vec.Iter.{into_iter_items}
use Rattle.std.specs.List.{AllByRecursion}
use Rattle.rp_semantics.specs.Walk.{most_tests}
use Rattle.rp_regionlots.specs.Shown.{with_all_shown, ShowsNothingCounted}
use Rattle.rp_regionlots.proofs.halves.append_shown.Given as goal

-- the lines of the pairs still to come are left
abbrev pub invariant-loop-one : goal.invariant-loop-one
invariant-loop-one l = record {
  few : l.work.tests ≤ most_tests;
  uncounted : AllByRecursion ShowsNothingCounted (into_iter_items l.one-iterator);
  left : with_all_shown l.work (into_iter_items l.one-iterator) ≡ with_all_shown l.fn.work l.fn.all.items;
}
