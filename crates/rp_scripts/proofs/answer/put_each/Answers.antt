use Rattle.std.proofs.Common.{[], ◌∷◌, ◌++◌, ◌+◌, drop, sym, ap, arith}
use Rattle.rp_algebra.proofs.Lists.{drop_item}
use Rattle.rp_reports.specs.Text.{line_end}
use Rattle.rp_text.specs.LineTexts.{lines_text}
use Rattle.rp_scripts.proofs.SinkLemmas.{HasPut-front, HasPut-more, OnErr-holds}
use Rattle.rp_scripts.proofs.answer.put_each.Goals as goal

pub returns-in_err-put_line-clause-front : goal.returns-in_err-put_line-clause-front
returns-in_err-put_line-clause-front g c =
    let text = g.T.WriteText.text in
    let lines = c.args.lines.now in
    let i = c.loop-line.line-index in
    let line = c.line-item.result in
    OnErr-holds c.from_residual.result
    (HasPut-front (g.K.Sink.said c.args.sink.now) (g.K.Sink.said c.loop-line.sink) (g.K.Sink.said c.put_line.new.sink) (lines_text text lines) (lines_text text (drop i lines)) (text line ++ line_end ∷ []) (lines_text text (drop (i + 1) lines))
    c.loop-line.invariant.1 (ap (lines_text text) (sym (drop_item lines i line c.loop-line-test.true c.line-item.is))) c.in_err-put_line.ensures.front)

pub loop-line-preserved : goal.loop-line-preserved
loop-line-preserved g c =
    let text = g.T.WriteText.text in
    let lines = c.args.lines.now in
    let i = c.loop-line.line-index in
    let line = c.line-item.result in (
      omega (arith, c.loop-line.invariant.0, c.in_ok-put_line.ensures.counts),
      HasPut-more (g.K.Sink.said c.args.sink.now) (g.K.Sink.said c.loop-line.sink) (g.K.Sink.said c.put_line.new.sink) (lines_text text lines) (lines_text text (drop i lines)) (text line ++ line_end ∷ []) (lines_text text (drop (i + 1) lines))
          c.loop-line.invariant.1 (ap (lines_text text) (sym (drop_item lines i line c.loop-line-test.true c.line-item.is))) c.in_ok-put_line.ensures.put,
    )
