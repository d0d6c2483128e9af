use Rattle.std.proofs.Common.{refl, arith}
use Rattle.rp_reports.specs.Output.{has_bad_line}
use Rattle.rp_reports.specs.Upgrade.{upgraded_script}
use Rattle.rp_command.specs.Versions.{version_of}
use Rattle.rp_scripts.proofs.BodyLemmas.{HasPutLines-more}
use Rattle.rp_scripts.proofs.SinkLemmas.{OnErr-holds}
use Rattle.rp_scripts.proofs.SpellLemmas.{upgraded_at, HasPutLines-upgrade, PutsFront-upgrade, PutsFront-upgrade_mark, PutsOutput-upgrade}
use Rattle.rp_scripts.proofs.upgrade.upgrade.Goals as goal

pub loop-line-init : goal.loop-line-init
loop-line-init g c =
    record {
      counts = omega (arith, c.in_ok-put_mark.ensures.counts);
      upgraded =
          HasPutLines-upgrade c.args.script.now c.split_mark-version.result.1.now _ (g.K.Sink.said c.args.sink.now) (g.K.Sink.said c.put_mark.new.sink) (version_of c.split_mark-version.result.0)
          c.split_mark-version.ensures.version c.split_mark-version.ensures.body refl c.in_ok-put_mark.ensures.ok;
    }

pub loop-line-preserved : goal.loop-line-preserved
loop-line-preserved g c =
    let v = version_of c.split_mark-version.result.0 in
    record {
      counts = omega (arith, c.loop-line.invariant.counts, c.in_ok-has_bad_line.ensures.counts);
      upgraded =
          HasPutLines-more (upgraded_at v) v (upgraded_script c.args.script.now) (has_bad_line c.args.script.now) (g.K.Sink.said c.args.sink.now) (g.K.Sink.said c.loop-line.sink) (g.K.Sink.said c.put_upgraded.new.sink)
          c.loop-line.rest.now c.in-Some.line.now c.in-Some.behind.now c.loop-line.has_bad_line c.in_ok-has_bad_line.field-0 c.loop-line.invariant.upgraded
          c.in-Some.ensures.next c.in_ok-has_bad_line.ensures.text;
    }

pub returns-clause-script : goal.returns-clause-script
returns-clause-script g c =
    PutsOutput-upgrade c.args.script.now (version_of c.split_mark-version.result.0) (g.K.Sink.said c.args.sink.now) (g.K.Sink.said c.loop-line.sink) c.loop-line.rest.now
    c.loop-line.has_bad_line c.loop-line.invariant.upgraded c.in_default.ensures.end

pub returns-in_err-put_mark-clause-front : goal.returns-in_err-put_mark-clause-front
returns-in_err-put_mark-clause-front g c =
    OnErr-holds c.from_residual.result
    (PutsFront-upgrade_mark c.args.script.now c.split_mark-version.result.1.now _ (g.K.Sink.said c.args.sink.now) (g.K.Sink.said c.put_mark.new.sink) (version_of c.split_mark-version.result.0)
    c.split_mark-version.ensures.version c.split_mark-version.ensures.body refl c.in_err-put_mark.ensures.front)

pub returns-in_err-has_bad_line-clause-front : goal.returns-in_err-has_bad_line-clause-front
returns-in_err-has_bad_line-clause-front g c =
    OnErr-holds c.from_residual-in_err-has_bad_line.result
    (PutsFront-upgrade c.args.script.now (version_of c.split_mark-version.result.0) (g.K.Sink.said c.args.sink.now) (g.K.Sink.said c.loop-line.sink) (g.K.Sink.said c.put_upgraded.new.sink)
    c.loop-line.rest.now c.in-Some.line.now c.in-Some.behind.now c.loop-line.has_bad_line c.loop-line.invariant.upgraded c.in-Some.ensures.next c.in_err-has_bad_line.ensures.front)
