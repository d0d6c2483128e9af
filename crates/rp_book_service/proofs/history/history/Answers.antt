use Rattle.std.proofs.Common.{◌≡◌, List, ℕ, map, subst}
use Rattle.rp_io.specs.Bytes.{Appends}
use Rattle.rp_book.specs.Act.{act_of}
use Rattle.rp_reports.specs.Report.{script_body, script_version}
use Rattle.rp_book_service.specs.Children.{children_text}
use Rattle.rp_book_service.specs.Events.{events_text}
use Rattle.rp_book_service.proofs.AnswerLemmas.{history_put}
use Rattle.rp_book_service.proofs.history.history.Goals as goal

pub returns-clause-answer : goal.returns-clause-answer
returns-clause-answer g c =
    let script = c.text-script.result.now in
    let acts = map act_of c.acts.result.now in
    let old = g.K.Sink.said c.args.sink.now in
    let between = g.K.Sink.said c.put_lines.new.sink in
    let later = g.K.Sink.said c.put_lines-2.new.sink in
    let new = g.K.Sink.said c.put_lines-3.new.sink in
    history_put (g.B.Book.script c.args.book.now) (g.B.Book.acts c.args.book.now) script c.args.id.now c.in_ok-told.told.items c.in_ok-events.events.items c.in_ok-children.children.items acts old between later new c.in_ok-told.refused
    c.text-script.ensures.bytes c.acts.ensures.lines c.acts.ensures.told
    c.in_ok-told.ensures.answers (subst (λ (piece : List ℕ). Appends old between piece) c.deref.ensures.value c.in_ok-put_lines.ensures.ok)
    (subst (λ (piece : List ℕ). Appends between later piece) c.deref-3.ensures.value c.in_ok-put_lines-2.ensures.ok)
    (subst (λ (piece : List ℕ). Appends later new piece) c.deref-5.ensures.value c.in_ok-put_lines-3.ensures.ok)
    (λ order. subst (λ (answer : List ℕ). c.in_ok-events.events.items ≡ events_text acts answer) c.deref-2.ensures.value (c.in_ok-events.ensures order))
    (subst (λ (answer : List ℕ). c.in_ok-children.children.items ≡ children_text (script_version script) (script_body script) answer) c.deref-4.ensures.value c.in_ok-children.ensures)
