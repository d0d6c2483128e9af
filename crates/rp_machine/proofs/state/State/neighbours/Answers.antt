use Rattle.std.proofs.Common.{List, length, sym, ap, ◌∙◌, arith}
use Rattle.std.proofs.lemmas.Result.{err_from_is_err_and}
use Rattle.rp_semantics.specs.Walk.{done}
use Rattle.rp_model.specs.commands.Verdict.{Verdict, neighbour_lines}
use Rattle.rp_model.specs.commands.Reply.{reply_lines}
use Rattle.rp_machine.proofs.state.State.neighbours.Goals as goal

pub returns-in_err-ids : goal.returns-in_err-ids
returns-in_err-ids g c =
    let p = err_from_is_err_and c.from_residual.result c.from_residual.ensures.1 in
    rw (p.1, p.2) c.in_err-ids.ensures.row

pub neighbour_lines-requires : goal.neighbour_lines-requires
neighbour_lines-requires g c =
    let same = ap length c.items.ensures in
    let few = c.in_ok-ids.ensures.few in
    omega (arith, same, few)

pub returns : goal.returns
returns g c = c.in_ok-ids.ensures.row ∙ ap (λ (vs : List Verdict). done (reply_lines vs) c.neighbours.new.work) (sym (c.in_ok-neighbour_lines.ensures ∙ ap neighbour_lines c.items.ensures))
