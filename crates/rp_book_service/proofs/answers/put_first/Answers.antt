use Rattle.std.proofs.Common.{[]}
use Rattle.std.proofs.lemmas.Result.{IfOk-weaker}
use Rattle.rp_reports.specs.Output.{run_script}
use Rattle.rp_scripts.specs.Output.{PutsOutput}
use Rattle.rp_book_service.specs.Added.{PutsBehind}
use Rattle.rp_book_service.proofs.AnswerLemmas.{PutsBehind-nothing}
use Rattle.rp_book_service.proofs.answers.put_first.Goals as goal

pub returns-clause-answers : goal.returns-clause-answers
returns-clause-answers g c =
    let old = g.K.Sink.said c.args.sink.now in
    let new = g.K.Sink.said c.run.new.sink in
    IfOk-weaker c.run.result (λ refused. PutsOutput run_script c.args.lines.now old new refused) (λ refused. PutsBehind [] c.args.lines.now old new refused)
    (λ refused h. PutsBehind-nothing c.args.lines.now old new refused h) c.run.ensures.report
