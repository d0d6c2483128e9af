use Rattle.std.proofs.Common.{◌≡◌, ◌≤◌, ◌<◌, ◌*◌}
use Rattle.std.specs.Option.{unwrap_or}
use Rattle.rp_bench.specs.Found.{size_found}
use Rattle.rp_bench.proofs.rounds.ask.Given as goal

-- the last round found what the search finds, and the sum counts it once a round
abbrev pub invariant-loop : goal.invariant-loop
invariant-loop l =
    record {
      last : 0 < l.counter → l.last ≡ size_found l.task.search l.cell;
      total : l.total ≡ l.counter * unwrap_or (size_found l.task.search l.cell) 0;
      small : l.total ≤ 4 * l.counter;
    }
