use Rattle.std.proofs.Common.{◌≡◌, ◌<◌, ◌≤◌, ◌+◌, ◌-◌, vec_len}
use Rattle.rp_io.proofs.IntakeLemmas.{ReadsOn}
use Rattle.rp_io.proofs.intake.read_whole.Given as goal

abbrev pub invariant-loop-piece : goal.invariant-loop-piece
invariant-loop-piece g l =
    record {
      faults : g.S.Source.faults l.source ≡ g.S.Source.faults l.fn.source;
      within : vec_len l.whole ≤ l.limit;
      nonempty : 0 < vec_len l.piece;
      reads_on : ReadsOn (g.S.Source.left l.fn.source) (g.S.Source.left l.source) l.whole.items;
    }

abbrev pub decreases-loop-piece : goal.decreases-loop-piece
decreases-loop-piece g l = (l.limit + 1) - vec_len l.whole
