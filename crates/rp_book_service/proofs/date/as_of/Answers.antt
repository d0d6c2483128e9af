use Rattle.std.proofs.Common.{List, ℕ, map, string_bytes, ap, ◌∙◌}
use Rattle.rp_book.specs.Act.{act_of}
use Rattle.rp_book_service.specs.Acts.{as_of_line}
use Rattle.rp_book_service.specs.Layers.{lines_in}
use Rattle.rp_book_service.proofs.AnswerLemmas.{as_of_put}
use Rattle.rp_book_service.proofs.date.as_of.Goals as goal

pub returns-clause-answer : goal.returns-clause-answer
returns-clause-answer g c =
    as_of_put c.answer.result (g.B.Book.script c.args.book.now) (g.B.Book.acts c.args.book.now) c.text.result.now c.deref.result.now c.args.date.now c.args.layer (map string_bytes c.args.words.now) (map act_of c.acts.result.now)
    (g.K.Sink.said c.args.sink.now) (g.K.Sink.said c.answer.new.sink) c.text.ensures.bytes c.acts.ensures.told
    (c.deref.ensures.value ∙ c.in_ok-questions.ensures.lines
    ∙ ap (λ (line : List ℕ). lines_in c.args.layer line) (c.in_ok-question.ensures ∙ ap (λ (n : ℕ). as_of_line n (map string_bytes c.args.words.now)) c.last_line_by-line.ensures))
    c.answer.ensures.answers
