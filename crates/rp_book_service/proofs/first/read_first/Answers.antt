use Rattle.std.proofs.Common.{◌≡◌, ◌++◌, ◌+◌, List, ℕ, length, refl, ap, sym, subst, ◌∙◌, arith, length-append}
use Rattle.std.proofs.lemmas.List.{length-take-le}
use Rattle.rp_algebra.proofs.Lists.{nonempty_from_test}
use Rattle.rp_book.specs.Lines.{HasEnd}
use Rattle.rp_book.proofs.ScriptLemmas.{HasEnd-behind}
use Rattle.rp_book_service.specs.Session.{HasNoEnd}
use Rattle.rp_io.specs.Bytes.{IsAtEnd}
use Rattle.rp_io.proofs.IntakeLemmas.{ReadsOn}
use Rattle.rp_book_service.proofs.SessionLemmas.{ReadsOn-cut, ReadsOn-past, read_whole}
use Rattle.rp_book_service.proofs.first.read_first.Goals as goal

pub returns-then-count-len-clause-cause : goal.returns-then-count-len-clause-cause
returns-then-count-len-clause-cause g c =
    ReadsOn-past (g.S.Source.left c.args.source.now) (g.S.Source.left c.loop-count.source) (g.S.Source.left c.read.new.self) c.loop-count.held.items c.read.new.buf c.in-Ok.count
    c.loop-count.invariant.reads c.in-Ok.ensures.taken (omega (arith, c.if-count-len.true, c.loop-count.invariant.short, c.loop-count.held.ok.0))

pub returns-then-not-is_empty-clause-short : goal.returns-then-not-is_empty-clause-short
returns-then-not-is_empty-clause-short g c =
    let lines = c.cut_lines.result.0.now in
    let rest = c.cut_lines.result.1.now in
    let both = ap length c.cut_lines.ensures.whole ∙ length-append lines rest in
    let all = ap length c.in_ok-extend_from_slice.ensures.items ∙ length-append c.loop-count.held.items lines in
    let last = ap length c.in_ok-from_slice.ensures.items in
    let count = length-take-le c.in-Ok.count c.read.new.buf c.in-Ok.ensures.within in
    omega (arith, both, all, last, count, c.if-count-len.false, c.len.ensures, c.loop-count.invariant.short, c.loop-count.held.ok.0)

pub returns-then-not-is_empty-clause-first : goal.returns-then-not-is_empty-clause-first
returns-then-not-is_empty-clause-first g c =
    let held = c.loop-count.held.items in
    let lines = c.cut_lines.result.0.now in
    let rest = c.cut_lines.result.1.now in
    let before = g.S.Source.left c.args.source.now in
    let after = g.S.Source.left c.read.new.self in
    let some = nonempty_from_test lines (sym c.is_empty.ensures ∙ c.if-not-is_empty.true) in (
      subst HasEnd (sym c.in_ok-extend_from_slice.ensures.items) (HasEnd-behind held lines (some, c.cut_lines.ensures.ended some)),
      subst HasNoEnd (sym c.in_ok-from_slice.ensures.items) c.cut_lines.ensures.unended,
      subst (λ xs. ReadsOn before after (xs ++ c.in_ok-from_slice.field-0.items)) (sym c.in_ok-extend_from_slice.ensures.items)
          (subst (λ xs. ReadsOn before after ((held ++ lines) ++ xs)) (sym c.in_ok-from_slice.ensures.items)
          (ReadsOn-cut before (g.S.Source.left c.loop-count.source) after held c.read.new.buf lines rest c.in-Ok.count c.in-Ok.ensures.within c.loop-count.invariant.reads c.in-Ok.ensures.taken c.cut_lines.ensures)),
    )

pub returns-then-count-eq0-clause-first : goal.returns-then-count-eq0-clause-first
returns-then-count-eq0-clause-first g c =
    let held = c.loop-count.held.items in
    let end : IsAtEnd (g.S.Source.left c.loop-count.source) = c.in-Ok.ensures.end c.if-count-eq0.true (omega (arith, c.loop-count.auto.buffer, c.read.auto.buf, c.requires)) in
    read_whole (λ input. input ≡ held) (g.S.Source.left c.args.source.now) (g.S.Source.left c.loop-count.source) held c.loop-count.invariant.reads end refl

pub loop-count-preserved : goal.loop-count-preserved
loop-count-preserved g c =
    let held = c.loop-count.held.items in
    let lines = c.cut_lines.result.0.now in
    let rest = c.cut_lines.result.1.now in
    let before = g.S.Source.left c.args.source.now in
    let after = g.S.Source.left c.read.new.self in
    let first = c.in_ok-extend_from_slice.ensures.items in
    let items = c.in_ok-extend_from_slice-2.ensures.items ∙ ap (λ (xs : List ℕ). xs ++ rest) first in
    let both = ap length c.cut_lines.ensures.whole ∙ length-append lines rest in
    let all = ap length items ∙ length-append (held ++ lines) rest ∙ ap (λ (n : ℕ). n + length rest) (length-append held lines) in
    let count = length-take-le c.in-Ok.count c.read.new.buf c.in-Ok.ensures.within in
    record {
      faults = omega (arith, c.loop-count.invariant.faults, c.in-Ok.ensures.counts);
      short = omega (arith, both, all, count, c.if-count-len.false, c.len.ensures, c.loop-count.invariant.short, c.loop-count.held.ok.0);
      reads =
          subst (ReadsOn before after) (sym items)
          (ReadsOn-cut before (g.S.Source.left c.loop-count.source) after held c.read.new.buf lines rest c.in-Ok.count c.in-Ok.ensures.within c.loop-count.invariant.reads c.in-Ok.ensures.taken c.cut_lines.ensures);
    }
