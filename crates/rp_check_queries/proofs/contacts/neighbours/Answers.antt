use Rattle.std.proofs.Common.{List, length, sym, ap, ◌∙◌, arith}
use Rattle.std.proofs.lemmas.Result.{err_from_is_err_and}
use Rattle.rp_semantics.specs.Walk.{done}
use Rattle.rp_model.specs.states.State.{Lot}
use Rattle.rp_model.specs.commands.Verdict.{Verdict, neighbour_lines}
use Rattle.rp_model.specs.commands.Reply.{reply_lines}
use Rattle.rp_reports.specs.Check.{line_tester}
use Rattle.rp_proximity.specs.declared.reach.Reach.TheVariants.{Touch}
use Rattle.rp_contacts.specs.Asked.{contacts_reply}
use Rattle.rp_contacts.specs.Meets.{contact_ids}
use Rattle.rp_contacts.proofs.Contacts.{bare_met}
use Rattle.rp_contacts.proofs.Judging.{within_lines, within_forms, meet_pairs, judged_stops, judged_ends}
use Rattle.rp_check_queries.proofs.contacts.neighbours.Goals as goal

pub returns-in_err-left : goal.returns-in_err-left
returns-in_err-left g c =
    let p = err_from_is_err_and c.from_residual.result c.from_residual.ensures.1 in
    rw (p.1, p.2) c.in_err-left.ensures.left

pub meet_in_turn-requires : goal.meet_in_turn-requires
meet_in_turn-requires g c = within_forms (λ f. f.items) (g.K.Keeper.state c.args.keeper.now).lots c.forms.result.now c.in_ok-left.left.pairs.items c.deref.result.now c.forms.ensures c.deref.ensures.value c.in_ok-left.ensures.within

pub returns-in_err-met : goal.returns-in_err-met
returns-in_err-met g c =
    let p = err_from_is_err_and c.from_residual-in_err-met.result c.from_residual-in_err-met.ensures.1 in
    let lots = (g.K.Keeper.state c.args.keeper.now).lots in
    rw (p.1, p.2) (judged_stops (meet_pairs line_tester Touch) lots _ c.in_ok-left.left.pairs.items c.deref.result.now (contacts_reply lots c.in_ok-left.left) c.pending_contacts.new.tests c.meet_in_turn.new.trail _ c.forms.ensures c.deref.ensures.value c.in_ok-left.ensures.left c.in_err-met.field-0.0 c.in_err-met.ensures.comes)

pub contact_ids-requires-clause-within : goal.contact_ids-requires-clause-within
contact_ids-requires-clause-within g c = within_lines (g.K.Keeper.state c.args.keeper.now).lots c.history.result.now c.lots.result.now c.in_ok-left.left.places.items c.items.result.now c.history.ensures.value c.lots.ensures.value c.items.ensures c.in_ok-left.ensures.places

pub contact_ids-requires-clause-each : goal.contact_ids-requires-clause-each
contact_ids-requires-clause-each g c = ap length c.deref-2.ensures.value ∙ c.in_ok-met.ensures.each ∙ ap length c.deref.ensures.value ∙ c.in_ok-left.ensures.each ∙ sym (ap length c.items.ensures)

pub neighbour_lines-requires : goal.neighbour_lines-requires
neighbour_lines-requires g c =
    let same = ap length c.items-2.ensures in
    let few = c.in_ok-ids.ensures.few in
    let here = ap length c.items.ensures in
    let most = c.in_ok-left.ensures.few in
    omega (arith, same, few, here, most)

pub returns : goal.returns
returns g c =
    let lots = (g.K.Keeper.state c.args.keeper.now).lots in
    let left = c.in_ok-left.left in
    let met = c.in_ok-met.met.items in
    let v = c.meet_in_turn.new.trail in
    let ids = c.items-2.ensures ∙ c.in_ok-ids.ensures.ids
    ∙ (λ i. contact_ids (c.lots.ensures.value i) (c.items.ensures i) (c.deref-2.ensures.value i))
    ∙ ap (λ (ls : List (Lot (Unit {0}))). contact_ids ls left.places.items met) c.history.ensures.value
    ∙ bare_met lots left.places.items met in
    judged_ends (meet_pairs line_tester Touch) lots _ left.pairs.items c.deref.result.now (contacts_reply lots left) c.pending_contacts.new.tests v _ c.forms.ensures c.deref.ensures.value c.in_ok-left.ensures.left met c.in_ok-met.ensures.comes
    ∙ ap (λ (vs : List Verdict). done (reply_lines vs) v) (sym (c.in_ok-neighbour_lines.ensures ∙ ap neighbour_lines ids))
