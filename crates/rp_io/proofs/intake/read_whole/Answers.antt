use Rattle.std.proofs.Common.{◌<◌, ◌+◌, length, refl, sym, ◌∙◌, subst, arith}
use Rattle.rp_io.proofs.IntakeLemmas.{ReadsOn, ReadsOn-start, IsWhole-at_end, IsPastLimit-from_read, IsAppended, length-piece, ReadsOn-appended}
use Rattle.rp_io.proofs.intake.read_whole.Goals as goal

pub loop-piece-init : goal.loop-piece-init
loop-piece-init g c =
    let left = g.S.Source.left c.args.source.now in
    record {
      faults = refl;
      within = omega (arith, c.new-whole.ensures.len);
      nonempty = omega (arith, c.in_ok-piece.ensures);
      reads_on = subst (ReadsOn left left) (sym c.new-whole.ensures.items) (ReadsOn-start left);
    }

pub returns-then-count-eq0-clause-whole : goal.returns-then-count-eq0-clause-whole
returns-then-count-eq0-clause-whole g c =
    let nonempty : 0 < length c.read.new.buf = omega (arith, c.read.auto.buf, c.deref_mut.ensures.len, c.loop-piece.invariant.nonempty) in
    IsWhole-at_end (g.S.Source.left c.args.source.now) (g.S.Source.left c.loop-piece.source) (g.S.Source.left c.read.new.self)
    c.loop-piece.whole.items c.read.new.buf c.in_ok-count.count c.if-count-eq0.true c.loop-piece.invariant.reads_on
    c.in_ok-count.ensures.taken (c.in_ok-count.ensures.end c.if-count-eq0.true nonempty)

pub returns-then-count-limit-clause-cause : goal.returns-then-count-limit-clause-cause
returns-then-count-limit-clause-cause g c =
    let past : c.args.limit < length c.loop-piece.whole.items + c.in_ok-count.count = omega (arith, c.if-count-limit.true, c.len.ensures, c.loop-piece.invariant.within, c.loop-piece.whole.ok.0) in (
      c.in_ok-count.ensures.same ∙ c.loop-piece.invariant.faults,
      IsPastLimit-from_read (g.S.Source.left c.args.source.now) (g.S.Source.left c.loop-piece.source) (g.S.Source.left c.read.new.self)
          c.loop-piece.whole.items c.read.new.buf c.in_ok-count.count c.args.limit c.loop-piece.invariant.reads_on
          c.in_ok-count.ensures.taken past,
    )

pub loop-piece-preserved : goal.loop-piece-preserved
loop-piece-preserved g c =
    let piece = c.loop-piece.piece in
    let read = c.loop-piece.whole.items in
    let new = c.extend_from_slice.new.self.items in
    let appended : IsAppended read c.read.new.buf piece.items c.deref.result.now new c.in_ok-count.count piece.len =
    record {
      filled = omega (arith, c.read.auto.buf, c.deref_mut.ensures.len);
      within = c.in_ok-count.ensures.within;
      piece_is = c.deref.ensures.value;
      new_is = c.in_ok-extend_from_slice.ensures.items;
    } in
    let count = length-piece read c.read.new.buf piece.items c.deref.result.now new c.in_ok-count.count piece.len appended in
    record {
      faults = c.in_ok-count.ensures.same ∙ c.loop-piece.invariant.faults;
      within = omega (arith, c.in_ok-extend_from_slice.ensures.len, count, c.if-count-limit.false, c.len.ensures, c.loop-piece.invariant.within);
      nonempty = c.loop-piece.invariant.nonempty;
      reads_on =
          ReadsOn-appended (g.S.Source.left c.args.source.now) (g.S.Source.left c.loop-piece.source) (g.S.Source.left c.read.new.self) read c.read.new.buf
          piece.items c.deref.result.now new c.in_ok-count.count piece.len c.loop-piece.invariant.reads_on c.in_ok-count.ensures.taken appended;
    }
