use Rattle.std.proofs.Common.{List, ap, sym, ◌∙◌}
use Rattle.std.proofs.lemmas.Result.{err_from_is_err_and}
use Rattle.rp_semantics.specs.Walk.{done}
use Rattle.rp_model.specs.commands.Verdict.{Verdict, clear}
use Rattle.rp_model.specs.commands.Reply.{reply, reply_lines}
use Rattle.rp_reports.specs.Check.{line_tester}
use Rattle.rp_contacts.specs.Apart.{apart_each}
use Rattle.rp_contacts.proofs.Judging.{within_forms, judged_stops, judged_ends}
use Rattle.rp_check_queries.proofs.contacts.audit.Goals as goal

pub returns-in_err-left : goal.returns-in_err-left
returns-in_err-left g c =
    let p = err_from_is_err_and c.from_residual.result c.from_residual.ensures.1 in
    rw (p.1, p.2) c.in_err-left.ensures.left

pub show_apart_in_turn-requires : goal.show_apart_in_turn-requires
show_apart_in_turn-requires g c = within_forms (λ f. f.items) (g.K.Keeper.state c.args.keeper.now).lots c.forms.result.now c.in_ok-left.left.pairs.items c.deref.result.now c.forms.ensures c.deref.ensures.value c.in_ok-left.ensures.within

pub returns-in_err-show_apart_in_turn : goal.returns-in_err-show_apart_in_turn
returns-in_err-show_apart_in_turn g c =
    let p = err_from_is_err_and c.from_residual-in_err-show_apart_in_turn.result c.from_residual-in_err-show_apart_in_turn.ensures.1 in
    let left = c.in_ok-left.left in
    rw (p.1, p.2) (judged_stops (apart_each line_tester) (g.K.Keeper.state c.args.keeper.now).lots _ left.pairs.items c.deref.result.now (λ _. reply (clear left.live)) c.audit_left.new.tests c.show_apart_in_turn.new.trail _ c.forms.ensures c.deref.ensures.value c.in_ok-left.ensures.left c.in_err-show_apart_in_turn.field-0.0 c.in_err-show_apart_in_turn.ensures)

pub returns : goal.returns
returns g c =
    let left = c.in_ok-left.left in
    let v = c.show_apart_in_turn.new.trail in
    judged_ends (apart_each line_tester) (g.K.Keeper.state c.args.keeper.now).lots _ left.pairs.items c.deref.result.now (λ _. reply (clear left.live)) c.audit_left.new.tests v _ c.forms.ensures c.deref.ensures.value c.in_ok-left.ensures.left tt c.in_ok-show_apart_in_turn.ensures
    ∙ ap (λ (vs : List Verdict). done (reply_lines vs) v) (sym c.in_ok-one_line.ensures)
