use Rattle.std.proofs.Common.{◌≡◌, length, drop}
use Rattle.rp_access.specs.Searching.{reach}
use Rattle.rp_access.proofs.search.Search.reach.Given as goal

abbrev pub invariant-loop-j : goal.invariant-loop-j
invariant-loop-j l = record {
  as_many : length l.self-inside.levels.items ≡ length l.initial.self-inside.levels.items;
  whole : (reach l.level (drop l.j-index l.numbers) (record { levels = l.self-inside.levels.items; queue = l.self-inside.queue.items }))
      ≡ reach l.level l.numbers (record { levels = l.initial.self-inside.levels.items; queue = l.initial.self-inside.queue.items });
}
