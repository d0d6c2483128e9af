use Rattle.std.proofs.Common.{List, sym, ap, ◌∙◌}
use Rattle.std.proofs.lemmas.Result.{err_from_is_err_and}
use Rattle.rp_semantics.specs.Walk.{done}
use Rattle.rp_model.specs.commands.Verdict.{Verdict}
use Rattle.rp_model.specs.commands.Reply.{reply_lines}
use Rattle.rp_machine.proofs.state.State.audit.Goals as goal

pub returns-in_err-live : goal.returns-in_err-live
returns-in_err-live g c =
    let p = err_from_is_err_and c.from_residual.result c.from_residual.ensures.1 in
    rw (p.1, p.2) c.in_err-live.ensures

pub returns : goal.returns
returns g c = c.in_ok-live.ensures ∙ ap (λ (vs : List Verdict). done (reply_lines vs) c.audit.new.work) (sym c.in_ok-one_line.ensures)
