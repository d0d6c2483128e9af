use Rattle.std.proofs.Common.{◌<◌, ◌≤◌, drop, map}
use Rattle.rp_book.specs.Kept.{RecoversOnly, MayRecover}
use Rattle.rp_seal.specs.Act.{entry_of}
use Rattle.rp_book_service.specs.Joined.{MayTake}
use Rattle.rp_book_service.specs.Replayed.{RecoversBeginning}
use Rattle.rp_book_service.proofs.ReplayLemmas.{IsTaken}
use Rattle.rp_book_service.proofs.replay.add_all.Given as goal

abbrev pub invariant-loop-act : goal.invariant-loop-act
invariant-loop-act g l =
    record {
      counts : g.B.Book.faults l.fn.book ≤ g.B.Book.faults l.book;
      may : MayTake (g.B.Book.script l.book) (g.B.Book.acts l.book) (map entry_of (drop l.act-index l.acts));
      taken : IsTaken (g.B.Book.script l.fn.book) (g.B.Book.script l.book) (g.B.Book.acts l.fn.book) (g.B.Book.acts l.book) (map entry_of l.acts) (map entry_of (drop l.act-index l.acts));
      crash : RecoversBeginning (g.B.Book.recoverable l.fn.book) (g.B.Book.recoverable l.book) (g.B.Book.script l.fn.book) (map entry_of l.acts);
      only : 0 < l.act-index → RecoversOnly (g.B.Book.recoverable l.book) (g.B.Book.script l.book);
      found : 0 < l.act-index → g.B.Book.has_honest_disk l.book → MayRecover (g.B.Book.recoverable l.book) (g.B.Book.script l.book);
    }
