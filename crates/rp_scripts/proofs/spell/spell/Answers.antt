use Rattle.std.proofs.Common.{refl, arith}
use Rattle.rp_reports.specs.Output.{has_bad_line, spelled_script}
use Rattle.rp_command.specs.Versions.{version_of}
use Rattle.rp_scripts.proofs.BodyLemmas.{HasPutLines-more}
use Rattle.rp_scripts.proofs.SinkLemmas.{OnErr-holds}
use Rattle.rp_scripts.proofs.SpellLemmas.{spelled_at, HasPutLines-spell, PutsFront-spell, PutsFront-spell_mark, PutsOutput-spell}
use Rattle.rp_scripts.proofs.spell.spell.Goals as goal

pub loop-line-init : goal.loop-line-init
loop-line-init g c =
    record {
      counts = omega (arith, c.in_ok-put_mark.ensures.counts);
      spelled =
          HasPutLines-spell c.args.script.now c.split_mark-version.result.1.now _ (g.K.Sink.said c.args.sink.now) (g.K.Sink.said c.put_mark.new.sink) (version_of c.split_mark-version.result.0)
          c.split_mark-version.ensures.version c.split_mark-version.ensures.body refl c.in_ok-put_mark.ensures.ok;
    }

pub loop-line-preserved : goal.loop-line-preserved
loop-line-preserved g c =
    let v = version_of c.split_mark-version.result.0 in
    record {
      counts = omega (arith, c.loop-line.invariant.counts, c.in_ok-has_bad_line.ensures.counts);
      spelled =
          HasPutLines-more (spelled_at v) v (spelled_script c.args.script.now) (has_bad_line c.args.script.now) (g.K.Sink.said c.args.sink.now) (g.K.Sink.said c.loop-line.sink) (g.K.Sink.said c.spell_line.new.sink)
          c.loop-line.rest.now c.in-Some.line.now c.in-Some.behind.now c.loop-line.has_bad_line c.in_ok-has_bad_line.field-0 c.loop-line.invariant.spelled
          c.in-Some.ensures.next c.in_ok-has_bad_line.ensures.text;
    }

pub returns-clause-spellings : goal.returns-clause-spellings
returns-clause-spellings g c =
    PutsOutput-spell c.args.script.now (version_of c.split_mark-version.result.0) (g.K.Sink.said c.args.sink.now) (g.K.Sink.said c.loop-line.sink) c.loop-line.rest.now
    c.loop-line.has_bad_line c.loop-line.invariant.spelled c.in_default.ensures.end

pub returns-in_err-put_mark-clause-front : goal.returns-in_err-put_mark-clause-front
returns-in_err-put_mark-clause-front g c =
    OnErr-holds c.from_residual.result
    (PutsFront-spell_mark c.args.script.now c.split_mark-version.result.1.now _ (g.K.Sink.said c.args.sink.now) (g.K.Sink.said c.put_mark.new.sink) (version_of c.split_mark-version.result.0)
    c.split_mark-version.ensures.version c.split_mark-version.ensures.body refl c.in_err-put_mark.ensures.front)

pub returns-in_err-has_bad_line-clause-front : goal.returns-in_err-has_bad_line-clause-front
returns-in_err-has_bad_line-clause-front g c =
    OnErr-holds c.from_residual-in_err-has_bad_line.result
    (PutsFront-spell c.args.script.now (version_of c.split_mark-version.result.0) (g.K.Sink.said c.args.sink.now) (g.K.Sink.said c.loop-line.sink) (g.K.Sink.said c.spell_line.new.sink)
    c.loop-line.rest.now c.in-Some.line.now c.in-Some.behind.now c.loop-line.has_bad_line c.loop-line.invariant.spelled c.in-Some.ensures.next c.in_err-has_bad_line.ensures.front)
