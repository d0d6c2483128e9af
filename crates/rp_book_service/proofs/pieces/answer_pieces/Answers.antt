use Rattle.std.proofs.Common.{◌≡◌, ◌++◌, false, take, sym, subst, arith}
use Rattle.std.proofs.lemmas.List.{length-take-le}
use Rattle.std.proofs.lemmas.Result.{err_from_is_err_and}
use Rattle.rp_io.specs.Bytes.{IsAtEnd}
use Rattle.rp_reports.specs.Report.{script_version}
use Rattle.rp_book_service.specs.Added.{PutsBehind, ended, has_change}
use Rattle.rp_book_service.specs.Session.{AnswersLines, missing_end, with_front}
use Rattle.rp_book_service.proofs.CauseLemmas.{ask_before, ask_cause}
use Rattle.rp_book_service.proofs.SessionLemmas.{AnswersLines-all, HasRead-more, HasRead-past, HasRead-start, PutsBehind-session, change_at_end, change_in_piece, questions-session, read_whole}
use Rattle.rp_book_service.proofs.pieces.answer_pieces.Goals as goal

pub loop-count-init : goal.loop-count-init
loop-count-init g c =
    record {
      reads = omega arith;
      puts = omega arith;
      ready = c.requires.ready;
      few = omega (arith, c.requires.behind.few, c.unfinished_bytes.ensures, c.requires.short);
      read = HasRead-start (g.S.Source.left c.args.source.now) _ c.args.session.now (g.K.Sink.said c.args.sink.now) c.requires.ready.unended;
    }

pub returns-in_err-finish-clause-cause : goal.returns-in_err-finish-clause-cause
returns-in_err-finish-clause-cause g c =
    let p = err_from_is_err_and c.from_residual.result c.from_residual.ensures.1 in
    let s = c.loop-count.session in
    let middle = g.K.Sink.said c.loop-count.sink in
    let new = g.K.Sink.said c.finish.new.sink in
    let end : IsAtEnd (g.S.Source.left c.loop-count.source) = c.in-Ok.ensures.end c.if-count-eq0.true (omega (arith, c.loop-count.auto.buffer, c.read.auto.buf, c.requires.room)) in
    let change = change_at_end c.args.script.now (with_front c.args.session.now.unfinished.items (g.S.Source.left c.args.source.now)) (g.S.Source.left c.loop-count.source) _ c.loop-count.room c.args.session.now s
    (g.K.Sink.said c.args.sink.now) middle new c.requires.end c.requires.behind c.loop-count.invariant.read end in
    rw (p.1, p.2)
    (ask_cause _ _ (g.K.Sink.faults c.args.sink.now) (g.K.Sink.faults c.loop-count.sink) (g.K.Sink.faults c.finish.new.sink) c.args.script.now (with_front c.args.session.now.unfinished.items (g.S.Source.left c.args.source.now))
    s (s.unfinished.items ++ missing_end s.unfinished.items) (g.K.Sink.said c.args.sink.now) middle new c.in_err-finish.field-0.0 c.loop-count.invariant.puts change c.in_err-finish.ensures.cause)

pub returns-in_err-finish-clause-before : goal.returns-in_err-finish-clause-before
returns-in_err-finish-clause-before g c =
    let p = err_from_is_err_and c.from_residual.result c.from_residual.ensures.1 in
    let s = c.loop-count.session in
    let middle = g.K.Sink.said c.loop-count.sink in
    let new = g.K.Sink.said c.finish.new.sink in
    let end : IsAtEnd (g.S.Source.left c.loop-count.source) = c.in-Ok.ensures.end c.if-count-eq0.true (omega (arith, c.loop-count.auto.buffer, c.read.auto.buf, c.requires.room)) in
    let change = change_at_end c.args.script.now (with_front c.args.session.now.unfinished.items (g.S.Source.left c.args.source.now)) (g.S.Source.left c.loop-count.source) _ c.loop-count.room c.args.session.now s
    (g.K.Sink.said c.args.sink.now) middle new c.requires.end c.requires.behind c.loop-count.invariant.read end in
    rw (p.1, p.2)
    (ask_before (g.K.Sink.faults c.loop-count.sink) (g.K.Sink.faults c.finish.new.sink) c.args.script.now (with_front c.args.session.now.unfinished.items (g.S.Source.left c.args.source.now))
    s (s.unfinished.items ++ missing_end s.unfinished.items) (g.K.Sink.said c.args.sink.now) middle new c.in_err-finish.field-0.0 change c.in_err-finish.ensures.cause)

pub returns-then-count-eq0-clause-questions : goal.returns-then-count-eq0-clause-questions
returns-then-count-eq0-clause-questions g c =
    let script = c.args.script.now in
    let read = c.loop-count.invariant.read in
    let came = c.args.session.now.unfinished.items ++ read.came in
    let old = g.K.Sink.said c.args.sink.now in
    let new = g.K.Sink.said c.finish.new.sink in
    let end : IsAtEnd (g.S.Source.left c.loop-count.source) = c.in-Ok.ensures.end c.if-count-eq0.true (omega (arith, c.loop-count.auto.buffer, c.read.auto.buf, c.requires.room)) in
    let all : AnswersLines (ended came) c.args.session.now c.finish.new.self old new =
    AnswersLines-all read.came c.args.session.now c.loop-count.session c.finish.new.self old (g.K.Sink.said c.loop-count.sink) new
    read.replies c.in_ok-finish.ensures.replies c.in_ok-finish.ensures.none in
    read_whole (λ lines. has_change (script_version (script ++ ended lines)) (ended lines) ≡ false) (with_front c.args.session.now.unfinished.items (g.S.Source.left c.args.source.now)) (g.S.Source.left c.loop-count.source) came read.reads end
    (questions-session script (ended came) c.args.session.now c.finish.new.self old new c.requires.end c.requires.behind all)

pub returns-then-count-eq0-clause-answers : goal.returns-then-count-eq0-clause-answers
returns-then-count-eq0-clause-answers g c =
    let script = c.args.script.now in
    let read = c.loop-count.invariant.read in
    let came = c.args.session.now.unfinished.items ++ read.came in
    let old = g.K.Sink.said c.args.sink.now in
    let new = g.K.Sink.said c.finish.new.sink in
    let end : IsAtEnd (g.S.Source.left c.loop-count.source) = c.in-Ok.ensures.end c.if-count-eq0.true (omega (arith, c.loop-count.auto.buffer, c.read.auto.buf, c.requires.room)) in
    let all : AnswersLines (ended came) c.args.session.now c.finish.new.self old new =
    AnswersLines-all read.came c.args.session.now c.loop-count.session c.finish.new.self old (g.K.Sink.said c.loop-count.sink) new
    read.replies c.in_ok-finish.ensures.replies c.in_ok-finish.ensures.none in
    read_whole (λ lines. PutsBehind script (ended lines) old new c.is_refused.result) (with_front c.args.session.now.unfinished.items (g.S.Source.left c.args.source.now)) (g.S.Source.left c.loop-count.source) came read.reads end
    (subst (PutsBehind script (ended came) old new) (sym c.is_refused.ensures) (PutsBehind-session script (ended came) c.args.session.now c.finish.new.self old new c.requires.end c.requires.behind all))

pub returns-then-count-room-clause-cause : goal.returns-then-count-room-clause-cause
returns-then-count-room-clause-cause g c =
    HasRead-past c.args.script.now (with_front c.args.session.now.unfinished.items (g.S.Source.left c.args.source.now)) (g.S.Source.left c.loop-count.source) (g.S.Source.left c.read.new.self)
    _ c.loop-count.room c.in-Ok.count c.read.new.buf c.args.session.now c.loop-count.session (g.K.Sink.said c.args.sink.now) (g.K.Sink.said c.loop-count.sink)
    c.loop-count.invariant.read c.in-Ok.ensures.taken c.if-count-room.true (omega (arith, c.requires.short, c.unfinished_bytes.ensures))

pub returns-in_err-answer_piece-clause-cause : goal.returns-in_err-answer_piece-clause-cause
returns-in_err-answer_piece-clause-cause g c =
    let p = err_from_is_err_and c.from_residual-in_err-answer_piece.result c.from_residual-in_err-answer_piece.ensures.1 in
    let s = c.loop-count.session in
    let middle = g.K.Sink.said c.loop-count.sink in
    let new = g.K.Sink.said c.answer_piece.new.sink in
    let change = change_in_piece c.args.script.now (with_front c.args.session.now.unfinished.items (g.S.Source.left c.args.source.now)) (g.S.Source.left c.loop-count.source) (g.S.Source.left c.read.new.self)
    _ c.loop-count.room c.in-Ok.count c.read.new.buf c.args.session.now s (g.K.Sink.said c.args.sink.now) middle new
    c.requires.end c.requires.behind c.loop-count.invariant.read c.in-Ok.ensures.within c.in-Ok.ensures.taken in
    rw (p.1, p.2)
    (ask_cause _ _ (g.K.Sink.faults c.args.sink.now) (g.K.Sink.faults c.loop-count.sink) (g.K.Sink.faults c.answer_piece.new.sink) c.args.script.now (with_front c.args.session.now.unfinished.items (g.S.Source.left c.args.source.now))
    s (s.unfinished.items ++ take c.in-Ok.count c.read.new.buf) (g.K.Sink.said c.args.sink.now) middle new c.in_err-answer_piece.field-0.0 c.loop-count.invariant.puts change c.in_err-answer_piece.ensures.cause)

pub returns-in_err-answer_piece-clause-before : goal.returns-in_err-answer_piece-clause-before
returns-in_err-answer_piece-clause-before g c =
    let p = err_from_is_err_and c.from_residual-in_err-answer_piece.result c.from_residual-in_err-answer_piece.ensures.1 in
    let s = c.loop-count.session in
    let middle = g.K.Sink.said c.loop-count.sink in
    let new = g.K.Sink.said c.answer_piece.new.sink in
    let change = change_in_piece c.args.script.now (with_front c.args.session.now.unfinished.items (g.S.Source.left c.args.source.now)) (g.S.Source.left c.loop-count.source) (g.S.Source.left c.read.new.self)
    _ c.loop-count.room c.in-Ok.count c.read.new.buf c.args.session.now s (g.K.Sink.said c.args.sink.now) middle new
    c.requires.end c.requires.behind c.loop-count.invariant.read c.in-Ok.ensures.within c.in-Ok.ensures.taken in
    rw (p.1, p.2)
    (ask_before (g.K.Sink.faults c.loop-count.sink) (g.K.Sink.faults c.answer_piece.new.sink) c.args.script.now (with_front c.args.session.now.unfinished.items (g.S.Source.left c.args.source.now))
    s (s.unfinished.items ++ take c.in-Ok.count c.read.new.buf) (g.K.Sink.said c.args.sink.now) middle new c.in_err-answer_piece.field-0.0 change c.in_err-answer_piece.ensures.cause)

pub loop-count-preserved : goal.loop-count-preserved
loop-count-preserved g c =
    record {
      reads = omega (arith, c.loop-count.invariant.reads, c.in-Ok.ensures.counts);
      puts = omega (arith, c.loop-count.invariant.puts, c.in_ok-answer_piece.ensures.counts);
      ready = c.in_ok-answer_piece.ensures.ready;
      few = omega (arith, c.loop-count.invariant.few, c.in_ok-answer_piece.ensures.few, c.if-count-room.false, length-take-le c.in-Ok.count c.read.new.buf c.in-Ok.ensures.within);
      read =
          HasRead-more (with_front c.args.session.now.unfinished.items (g.S.Source.left c.args.source.now)) (g.S.Source.left c.loop-count.source) (g.S.Source.left c.read.new.self) _ c.loop-count.room c.in-Ok.count c.read.new.buf
          c.args.session.now c.loop-count.session c.answer_piece.new.self (g.K.Sink.said c.args.sink.now) (g.K.Sink.said c.loop-count.sink) (g.K.Sink.said c.answer_piece.new.sink)
          c.loop-count.invariant.read c.in-Ok.ensures.taken c.in-Ok.ensures.within c.if-count-room.false c.in_ok-answer_piece.ensures.replies;
    }
