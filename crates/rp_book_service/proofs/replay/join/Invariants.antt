use Rattle.std.proofs.Common.{◌≡◌, ℕ, ◌<◌, ◌≤◌, ◌^◌, ◌++◌, drop, length, map}
use Rattle.rp_book.specs.Lines.{IsEnded, last_number}
use Rattle.rp_reports.specs.Output.{most_script_bytes}
use Rattle.rp_seal.specs.Act.{entry_of}
use Rattle.rp_book_service.specs.Replayed.{Continue, IsFirstUnlike, entry_lines}
use Rattle.rp_book_service.proofs.replay.join.Given as goal

abbrev pub invariant-loop-act : goal.invariant-loop-act
invariant-loop-act l =
    record {
      whole : l.whole.items ++ entry_lines (map entry_of (drop l.act-index l.acts)) ≡ l.script ++ entry_lines (map entry_of l.acts);
      ended : IsEnded l.whole.items;
      short : length l.whole.items ≤ most_script_bytes;
      before : l.before ≡ last_number l.whole.items;
      fits : l.before ≤ length l.whole.items;
      count : l.count < 2 ^ 63;
      continues : Continue l.whole.items l.count (map entry_of (drop l.act-index l.acts)) → Continue l.script l.fn.count (map entry_of l.acts);
      unlike : (number : ℕ) → IsFirstUnlike l.whole.items l.count (map entry_of (drop l.act-index l.acts)) number → IsFirstUnlike l.script l.fn.count (map entry_of l.acts) number;
    }
