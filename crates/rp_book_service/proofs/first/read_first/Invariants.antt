use Rattle.std.proofs.Common.{◌≤◌, ◌-◌, vec_len}
use Rattle.rp_io.proofs.IntakeLemmas.{ReadsOn}
use Rattle.rp_reports.specs.Output.{most_script_bytes}
use Rattle.rp_book_service.proofs.first.read_first.Given as goal

abbrev pub invariant-loop-count : goal.invariant-loop-count
invariant-loop-count g l =
    record {
      faults : g.S.Source.faults l.fn.source ≤ g.S.Source.faults l.source;
      short : vec_len l.held ≤ most_script_bytes;
      reads : ReadsOn (g.S.Source.left l.fn.source) (g.S.Source.left l.source) l.held.items;
    }

abbrev pub decreases-loop-count : goal.decreases-loop-count
decreases-loop-count g l = 16777217 - vec_len l.held
