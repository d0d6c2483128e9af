use Rattle.std.proofs.Common.{◌≡◌, Bool, false, IfOk, OnOk, sym, subst, ◌∙◌}
use Rattle.std.specs.List.{list_any}
use Rattle.rp_algebra.proofs.Results.{on_ok}
use Rattle.rp_io.specs.Bytes.{Appends}
use Rattle.rp_reports.specs.Output.{is_refused_line}
use Rattle.rp_reports.specs.Text.{Answer, answer_lines, text_of_lines}
use Rattle.rp_answer.specs.declared.answer.Answer.{Answer as Written}
use Rattle.rp_answer.specs.Views.{answer_of}
use Rattle.rp_scripts.proofs.RefusalLemmas.{list_any-lines}
use Rattle.rp_book_service.proofs.answers.answer_line.Goals as goal

-- a full report has a refusal where a brief one has
refused-full : (brief : Bool) (a : Written) → list_any is_refused_line (answer_lines brief (answer_of a)) ≡ list_any is_refused_line (answer_lines false (answer_of a))
refused-full brief a = list_any-lines brief (answer_of a) a.verdicts.items ∙ sym (list_any-lines false (answer_of a) a.verdicts.items)

pub returns-clause-put : goal.returns-clause-put
returns-clause-put g c =
    subst (λ (a : Answer). OnOk c.put_answer.result (Appends (g.K.Sink.said c.args.sink.now) (g.K.Sink.said c.put_answer.new.sink) (text_of_lines (answer_lines c.args.brief a))))
    c.in_ok-answer.ensures.answer c.put_answer.ensures.put

pub returns-clause-mark : goal.returns-clause-mark
returns-clause-mark g c =
    subst (λ (a : Answer). IfOk c.put_answer.result (λ refused. refused ≡ list_any is_refused_line (answer_lines false a))) c.in_ok-answer.ensures.answer
    (subst (λ (b : Bool). IfOk c.put_answer.result (λ refused. refused ≡ b)) (refused-full c.args.brief c.in_ok-answer.answer) c.put_answer.ensures.refused)

pub returns-clause-state : goal.returns-clause-state
returns-clause-state g c = on_ok c.put_answer.result c.in_ok-answer.ensures.state

pub returns-clause-later : goal.returns-clause-later
returns-clause-later g c = on_ok c.put_answer.result c.in_ok-answer.ensures.later
