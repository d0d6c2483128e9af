use Rattle.rp_book_service.proofs.AnswerLemmas.{Answers-quiet}
use Rattle.rp_book_service.proofs.answers.run_body.Goals as goal

pub returns-clause-answers : goal.returns-clause-answers
returns-clause-answers g c = Answers-quiet c.answer_lines.result c.args.machine.now c.answer_lines.new.machine c.args.body.now _ _ c.answer_lines.ensures.answers
