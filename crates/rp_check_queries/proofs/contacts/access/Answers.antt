use Rattle.std.proofs.Common.{Bool, List, length, sym, ap, ◌∙◌}
use Rattle.std.proofs.lemmas.Result.{err_from_is_err_and}
use Rattle.rp_semantics.specs.Walk.{done}
use Rattle.rp_model.specs.commands.Verdict.{Verdict}
use Rattle.rp_model.specs.commands.Reply.{reply_lines}
use Rattle.rp_reports.specs.Check.{line_tester}
use Rattle.rp_proximity.specs.declared.reach.Reach.TheVariants.{Touch}
use Rattle.rp_contacts.specs.Asked.{access_reply}
use Rattle.rp_contacts.proofs.Judging.{within_forms, meet_pairs, judged_stops, judged_ends}
use Rattle.rp_check_queries.proofs.contacts.access.Goals as goal

pub returns-in_err-left : goal.returns-in_err-left
returns-in_err-left g c =
    let p = err_from_is_err_and c.from_residual.result c.from_residual.ensures.1 in
    rw (p.1, p.2) c.in_err-left.ensures.left

pub meet_in_turn-requires : goal.meet_in_turn-requires
meet_in_turn-requires g c = within_forms (λ f. f.items) (g.K.Keeper.state c.args.keeper.now).lots c.forms.result.now c.in_ok-left.left.pairs.items c.deref.result.now c.forms.ensures c.deref.ensures.value c.in_ok-left.ensures.within

pub returns-in_err-met : goal.returns-in_err-met
returns-in_err-met g c =
    let p = err_from_is_err_and c.from_residual-in_err-met.result c.from_residual-in_err-met.ensures.1 in
    rw (p.1, p.2) (judged_stops (meet_pairs line_tester Touch) (g.K.Keeper.state c.args.keeper.now).lots _ c.in_ok-left.left.pairs.items c.deref.result.now (access_reply c.in_ok-left.left) c.access_left.new.tests c.meet_in_turn.new.trail _ c.forms.ensures c.deref.ensures.value c.in_ok-left.ensures.left c.in_err-met.field-0.0 c.in_err-met.ensures.comes)

pub access_answer-requires-clause-each : goal.access_answer-requires-clause-each
access_answer-requires-clause-each g c = ap length c.deref-2.ensures.value ∙ c.in_ok-met.ensures.each ∙ ap length c.deref.ensures.value

pub returns : goal.returns
returns g c =
    let left = c.in_ok-left.left in
    let v = c.meet_in_turn.new.trail in
    judged_ends (meet_pairs line_tester Touch) (g.K.Keeper.state c.args.keeper.now).lots _ left.pairs.items c.deref.result.now (access_reply left) c.access_left.new.tests v _ c.forms.ensures c.deref.ensures.value c.in_ok-left.ensures.left c.in_ok-met.met.items c.in_ok-met.ensures.comes
    ∙ ap (λ (bs : List Bool). done (access_reply left bs) v) (sym c.deref-2.ensures.value)
    ∙ ap (λ (vs : List Verdict). done (reply_lines vs) v) (sym c.in_ok-access_answer.ensures)
