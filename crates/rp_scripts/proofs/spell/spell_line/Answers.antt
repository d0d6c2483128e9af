use Rattle.std.proofs.Common.{IfOk, OnErr, subst}
use Rattle.rp_io.specs.Bytes.{AppendsPrefix}
use Rattle.rp_language.specs.Grammar.{Reading, reading}
use Rattle.rp_reports.specs.Output.{spelled_lines}
use Rattle.rp_reports.specs.Text.{text_of_lines}
use Rattle.rp_command.specs.Versions.{version_of}
use Rattle.rp_scripts.specs.Output.{PutsLines}
use Rattle.rp_scripts.proofs.SinkLemmas.{AppendsPrefix-nothing, OnErr-holds}
use Rattle.rp_scripts.proofs.spell.spell_line.Goals as goal

pub returns-clause-text : goal.returns-clause-text
returns-clause-text g c =
    let v = version_of c.args.version in
    subst (λ (r : Reading). IfOk c.put_read-bad.result (λ bad. PutsLines (spelled_lines v r) r (g.K.Sink.said c.args.sink.now) (g.K.Sink.said c.put_read-bad.new.sink) bad))
    c.in_ok-read.ensures c.put_read-bad.ensures.text

pub returns-clause-front : goal.returns-clause-front
returns-clause-front g c =
    let v = version_of c.args.version in
    subst (λ (r : Reading). OnErr c.put_read-bad.result (AppendsPrefix (g.K.Sink.said c.args.sink.now) (g.K.Sink.said c.put_read-bad.new.sink) (text_of_lines (spelled_lines v r))))
    c.in_ok-read.ensures c.put_read-bad.ensures.front

pub returns-in_err-read-clause-front : goal.returns-in_err-read-clause-front
returns-in_err-read-clause-front g c = OnErr-holds c.from_residual.result (AppendsPrefix-nothing (g.K.Sink.said c.args.sink.now) (text_of_lines (spelled_lines (version_of c.args.version) (reading (version_of c.args.version) c.args.line.now))))

pub returns-clause-counts : goal.returns-clause-counts
returns-clause-counts g c = c.put_read-bad.ensures.counts

pub returns-clause-cause : goal.returns-clause-cause
returns-clause-cause g c = c.put_read-bad.ensures.cause
