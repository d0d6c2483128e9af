use Rattle.rp_tool.proofs.TaskLemmas.{OnErr-make, OnErr-trial, OnOk-make, OnOk-trial}
use Rattle.rp_tool.proofs.top.put_made.Goals as goal

pub returns-in-Write-clause-output : goal.returns-in-Write-clause-output
returns-in-Write-clause-output g c =
    OnOk-make c.make.result c.args.task c.args.building.storeys c.args.building.seed (g.K.Sink.said c.args.sink.now) (g.K.Sink.said c.make.new.sink) c.in-Write.is c.make.ensures.script

pub returns-in-Try-clause-output : goal.returns-in-Try-clause-output
returns-in-Try-clause-output g c =
    OnOk-trial c.trial.result c.args.task c.args.building.storeys c.args.building.seed (g.K.Sink.said c.args.sink.now) (g.K.Sink.said c.trial.new.sink) c.in-Try.is c.trial.ensures.summary

pub returns-in-Write-clause-front : goal.returns-in-Write-clause-front
returns-in-Write-clause-front g c =
    OnErr-make c.make.result c.args.task c.args.building.storeys c.args.building.seed (g.K.Sink.said c.args.sink.now) (g.K.Sink.said c.make.new.sink) c.in-Write.is c.make.ensures.front

pub returns-in-Try-clause-front : goal.returns-in-Try-clause-front
returns-in-Try-clause-front g c =
    OnErr-trial c.trial.result c.args.task c.args.building.storeys c.args.building.seed (g.K.Sink.said c.args.sink.now) (g.K.Sink.said c.trial.new.sink) c.in-Try.is c.trial.ensures.front
