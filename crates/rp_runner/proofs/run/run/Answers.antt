use Rattle.std.proofs.Common.{ap, ◌∙◌}
use Rattle.rp_model.specs.states.State.{opening}
use Rattle.rp_scripts.proofs.SinkLemmas.{OnErr-holds}
use Rattle.rp_scripts.proofs.RunLemmas.{PutsFront-nothing}
use Rattle.rp_runner.proofs.run.run.Goals as goal

pub put_report-requires-clause-opened : goal.put_report-requires-clause-opened
put_report-requires-clause-opened g c κs lives = c.in_ok-machine.ensures ∙ ap (λ v. record { version = v; state = opening }) c.split_mark-version.ensures.version

pub returns-in_err-machine-clause-front : goal.returns-in_err-machine-clause-front
returns-in_err-machine-clause-front g c = OnErr-holds c.from_residual.result (PutsFront-nothing c.args.brief c.args.script.now (g.K.Sink.said c.args.sink.now))
