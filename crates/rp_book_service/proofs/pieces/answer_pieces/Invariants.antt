use Rattle.std.proofs.Common.{◌≤◌, ◌<◌, ◌+◌, ◌^◌, length}
use Rattle.rp_book_service.specs.Session.{IsReady, with_front}
use Rattle.rp_book_service.proofs.SessionLemmas.{HasRead}
use Rattle.rp_book_service.proofs.pieces.answer_pieces.Given as goal

abbrev pub invariant-loop-count : goal.invariant-loop-count
invariant-loop-count g l =
    record {
      reads : g.S.Source.faults l.fn.source ≤ g.S.Source.faults l.source;
      puts : g.K.Sink.faults l.fn.sink ≤ g.K.Sink.faults l.sink;
      ready : IsReady l.session;
      few : l.session.next + length l.session.unfinished.items + l.room + 1 < 2 ^ 32;
      read : HasRead (with_front l.fn.session.unfinished.items (g.S.Source.left l.fn.source)) (g.S.Source.left l.source) l.initial.room l.room l.fn.session l.session (g.K.Sink.said l.fn.sink) (g.K.Sink.said l.sink);
    }

abbrev pub decreases-loop-count : goal.decreases-loop-count
decreases-loop-count g l = l.room
