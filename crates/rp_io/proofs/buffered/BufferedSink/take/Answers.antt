use Rattle.std.proofs.lemmas.Result.{on_err_weaker}
use Rattle.rp_io.proofs.PutLemmas.{AppendsPrefix-after}
use Rattle.rp_io.proofs.buffered.BufferedSink.take.Goals as goal

pub returns-then-piece-gt-BUFFER_LENGTH-clause-err : goal.returns-then-piece-gt-BUFFER_LENGTH-clause-err
returns-then-piece-gt-BUFFER_LENGTH-clause-err g c =
    on_err_weaker c.put.result
    (AppendsPrefix-after (g.K.Sink.said c.args.self.now.sink) (g.K.Sink.said c.write_held.new.self.sink) (g.K.Sink.said c.put.new.self) c.args.self.now.held.items c.args.piece.now
    c.in_ok-write_held.ensures.ok)
    c.put.ensures.err
