use Rattle.std.proofs.Common.{ap, subst, sym, ◌∙◌}
use Rattle.std.proofs.lemmas.Result.{IfOk-weaker}
use Rattle.rp_algebra.proofs.Lists.{nonempty_from_test}
use Rattle.rp_language.specs.Grammar.{Version}
use Rattle.rp_command.specs.Versions.{version_of}
use Rattle.rp_book_service.specs.Added.{PutsBehind}
use Rattle.rp_book_service.specs.Answered.{AnswersBehind}
use Rattle.rp_book_service.proofs.AnswerLemmas.{PutsBehind-answered}
use Rattle.rp_book_service.proofs.answers.put_behind.Goals as goal

pub returns-clause-answers : goal.returns-clause-answers
returns-clause-answers g c =
    let some = nonempty_from_test c.args.script.now (sym c.is_empty.ensures ∙ c.if-is_empty.false) in
    let body = c.split_mark-version.result.1.now in
    let old = g.K.Sink.said c.args.sink.now in
    let new = g.K.Sink.said c.answer_both-answered.new.sink in
    IfOk-weaker c.answer_both-answered.result
    (λ refused. AnswersBehind c.in_ok-machine.machine.version body c.args.lines.now old new refused) (λ refused. PutsBehind c.args.script.now c.args.lines.now old new refused)
    (λ refused h.
    PutsBehind-answered c.args.script.now body c.args.lines.now (version_of c.split_mark-version.result.0) old new refused
    (some, c.requires.end some) c.split_mark-version.ensures.version c.split_mark-version.ensures.body
    (subst (λ (v : Version). AnswersBehind v body c.args.lines.now old new refused) (ap (λ m. m.version) c.in_ok-machine.ensures) h))
    c.answer_both-answered.ensures.answers
