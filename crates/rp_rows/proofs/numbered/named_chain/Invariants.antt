use Rattle.std.proofs.Common.{◌≡◌, length, take}
use Rattle.std.specs.Prelude.{filter_map}
use Rattle.std.specs.List.{slice_get}
use Rattle.rp_rows.proofs.numbered.named_chain.Given as goal

-- the ids of the numbers so far
abbrev pub invariant-loop-number : goal.invariant-loop-number
invariant-loop-number l = record {
  so_far : l.names.items ≡ filter_map (slice_get l.ids) (take l.number-index l.number-items);
  many : length l.names.items ≡ l.number-index;
}
