use Rattle.rp_tool.proofs.CheckLemmas.{PutsOutput-found, JudgesReport-found, front_found, nothing_found}
use Rattle.rp_scripts.proofs.SinkLemmas.{OnErr-holds}
use Rattle.rp_tool.proofs.check.check.Goals as goal

pub returns-clause-finding : goal.returns-clause-finding
returns-clause-finding g c =
    PutsOutput-found c.in_ok-found.found c.args.report.now (g.K.Sink.said c.args.sink.now) (g.K.Sink.said c.put_found.new.sink) c.is_wrong.result
    c.in_ok-found.ensures.found c.in_ok-found.ensures.right c.in_ok-put_found.ensures.text c.is_wrong.ensures

pub returns-clause-judges : goal.returns-clause-judges
returns-clause-judges g c =
    JudgesReport-found c.in_ok-found.found c.args.report.now c.is_wrong.result c.in_ok-found.ensures.right c.in_ok-found.ensures.whole c.is_wrong.ensures

pub returns-in_err-found-clause-front : goal.returns-in_err-found-clause-front
returns-in_err-found-clause-front g c = OnErr-holds c.from_residual.result (nothing_found c.args.report.now (g.K.Sink.said c.args.sink.now))

pub returns-in_err-put_found-clause-front : goal.returns-in_err-put_found-clause-front
returns-in_err-put_found-clause-front g c =
    OnErr-holds c.from_residual-in_err-put_found.result
    (front_found c.in_ok-found.found c.args.report.now (g.K.Sink.said c.args.sink.now) (g.K.Sink.said c.put_found.new.sink)
    c.in_ok-found.ensures.found c.in_ok-found.ensures.right c.in_err-put_found.ensures.front)
