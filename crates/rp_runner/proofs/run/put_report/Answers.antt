use Rattle.std.proofs.Common.{refl, ap, ◌∙◌, arith, sym, subst}
use Rattle.std.proofs.lemmas.Result.{err_from_is_err_and}
use Rattle.rp_model.specs.states.State.{opening, state_of_parts}
use Rattle.rp_model.specs.states.Sound.{IsLaterThan}
use Rattle.rp_reports.specs.Machine.{Running}
use Rattle.rp_command.specs.Versions.{version_of}
use Rattle.rp_scripts.proofs.SinkLemmas.{OnErr-holds}
use Rattle.rp_scripts.proofs.RunLemmas.{HasTold-start, HasTold-more, PutsFront-mark, PutsFront-run, PutsOutput-run}
use Rattle.rp_runner.proofs.Causes.{earlier_cause}
use Rattle.rp_runner.proofs.run.put_report.Goals as goal

pub loop-line-init : goal.loop-line-init
loop-line-init g c =
    let opened = c.requires.opened ∙ ap (λ v. record { version = v; state = opening }) (sym c.split_mark-version.ensures.version) in
    record {
      counts = omega (arith, c.in_ok-put_mark.ensures.counts);
      number = omega (arith, c.requires.short, c.split_mark-version.ensures.within);
      later = subst (λ (m : Running). IsLaterThan 1 (state_of_parts m.state)) (sym c.requires.opened) (record { births = tt; ends = tt });
      told =
          HasTold-start c.args.brief c.args.script.now c.split_mark-version.result.1.now _ (g.K.Sink.said c.args.sink.now) (g.K.Sink.said c.put_mark.new.sink) c.args.machine.now
          (version_of c.split_mark-version.result.0) c.split_mark-version.ensures.version c.split_mark-version.ensures.body opened refl c.in_ok-put_mark.ensures.ok;
    }

pub loop-line-preserved : goal.loop-line-preserved
loop-line-preserved g c =
    record {
      counts = omega (arith, c.loop-line.invariant.counts, c.in_ok-refused.ensures.counts);
      number = omega (arith, c.loop-line.invariant.number, c.in-Some.ensures.shorter);
      later = c.in_ok-refused.ensures.later;
      told =
          HasTold-more c.args.brief c.args.script.now (g.K.Sink.said c.args.sink.now) (g.K.Sink.said c.loop-line.sink) (g.K.Sink.said c.run_line.new.sink)
          c.loop-line.machine c.run_line.new.machine c.loop-line.number
          c.loop-line.rest.now c.in-Some.line.now c.in-Some.behind.now c.loop-line.refused c.in_ok-refused.field-0 c.loop-line.invariant.told
          c.in-Some.ensures.next c.in_ok-refused.ensures.answer c.in_ok-refused.ensures.state;
    }

pub returns-clause-report : goal.returns-clause-report
returns-clause-report g c =
    PutsOutput-run c.args.brief c.args.script.now (g.K.Sink.said c.args.sink.now) (g.K.Sink.said c.loop-line.sink) c.loop-line.machine c.loop-line.number c.loop-line.rest.now
    c.loop-line.refused c.loop-line.invariant.told c.in_default.ensures.end

pub returns-in_err-put_mark-clause-front : goal.returns-in_err-put_mark-clause-front
returns-in_err-put_mark-clause-front g c =
    OnErr-holds c.from_residual.result
    (PutsFront-mark c.args.brief c.args.script.now c.split_mark-version.result.1.now _ (g.K.Sink.said c.args.sink.now) (g.K.Sink.said c.put_mark.new.sink)
    (version_of c.split_mark-version.result.0) c.split_mark-version.ensures.version c.split_mark-version.ensures.body refl c.in_err-put_mark.ensures.front)

pub returns-in_err-refused-clause-front : goal.returns-in_err-refused-clause-front
returns-in_err-refused-clause-front g c =
    OnErr-holds c.from_residual-in_err-refused.result
    (PutsFront-run c.args.brief c.args.script.now (g.K.Sink.said c.args.sink.now) (g.K.Sink.said c.loop-line.sink) (g.K.Sink.said c.run_line.new.sink)
    c.loop-line.machine c.loop-line.number c.loop-line.rest.now c.in-Some.line.now c.in-Some.behind.now c.loop-line.refused c.loop-line.invariant.told
    c.in-Some.ensures.next c.in_err-refused.ensures.front)

pub returns-in_err-refused-clause-cause : goal.returns-in_err-refused-clause-cause
returns-in_err-refused-clause-cause g c =
    let p = err_from_is_err_and c.from_residual-in_err-refused.result c.from_residual-in_err-refused.ensures.1 in
    rw (p.1, p.2)
    (earlier_cause (g.K.Sink.faults c.args.sink.now) (g.K.Sink.faults c.loop-line.sink) (g.K.Sink.faults c.run_line.new.sink) c.in_err-refused.field-0.0
    c.loop-line.invariant.counts c.in_err-refused.ensures.cause)
