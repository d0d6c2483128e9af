use Rattle.std.proofs.Common.{List, sym, ap, ◌∙◌}
use Rattle.std.proofs.lemmas.Result.{err_from_is_err_and}
use Rattle.rp_semantics.specs.Walk.{done}
use Rattle.rp_model.specs.commands.Verdict.{Verdict}
use Rattle.rp_model.specs.commands.Reply.{reply_lines}
use Rattle.rp_machine.proofs.state.State.access.Goals as goal

pub returns-in_err-access : goal.returns-in_err-access
returns-in_err-access g c =
    let p = err_from_is_err_and c.from_residual.result c.from_residual.ensures.1 in
    rw (p.1, p.2) c.in_err-access.ensures

pub returns : goal.returns
returns g c = c.in_ok-access.ensures ∙ ap (λ (vs : List Verdict). done (reply_lines vs) c.access.new.work) (sym c.in_ok-access_lines.ensures)
