use Rattle.std.proofs.Common.{List, ◌∙◌}
use Rattle.std.proofs.lemmas.Result.{err_from_is_err_and}
use Rattle.rp_geometry.specs.sets.Shape.{Part}
use Rattle.rp_semantics.specs.Walk.{first_tester}
use Rattle.rp_model.specs.commands.Verdict.{clear}
use Rattle.rp_model.specs.commands.Reply.{reply}
use Rattle.rp_proximity.specs.declared.reach.Reach.TheVariants.{Overlap}
use Rattle.rp_contacts.proofs.Judging.{within_forms, meet_pairs, judged_stops, judged_ends}
use Rattle.rp_regionlots.proofs.Audited.{audit_met}
use Rattle.rp_regionlots.proofs.Shown.{own_map}
use Rattle.rp_regionlots.proofs.apart.audit.Goals as goal

pub returns-in_err-left : goal.returns-in_err-left
returns-in_err-left g c =
    let p = err_from_is_err_and c.from_residual.result c.from_residual.ensures.1 in
    rw (p.1, p.2) c.in_err-left.ensures.left

pub meet_in_halves-requires-clause-within : goal.meet_in_halves-requires-clause-within
meet_in_halves-requires-clause-within g c κs alive =
    within_forms (λ (x : List Part). x) (g.K.Keeper.state c.args.keeper.now).lots c.forms.result.now c.in_ok-left.left.pairs.items c.deref.result.now c.forms.ensures c.deref.ensures.value c.in_ok-left.ensures.within

pub returns-in_err-meet_in_halves : goal.returns-in_err-meet_in_halves
returns-in_err-meet_in_halves g c =
    let p = err_from_is_err_and c.from_residual-in_err-meet_in_halves.result c.from_residual-in_err-meet_in_halves.ensures.1 in
    let s = g.K.Keeper.state c.args.keeper.now in
    let left = c.in_ok-left.left in
    let u = c.audit_left.new.tests in
    let same = own_map c.forms.result.now ∙ c.forms.ensures in
    rw (p.1, p.2)
    (judged_stops (meet_pairs first_tester Overlap) s.lots c.forms.result.now left.pairs.items c.deref.result.now (λ _. reply (clear left.live)) u c.meet_in_halves.new.work _ same c.deref.ensures.value (audit_met s c.requires.sound left.live left.pairs.items c.args.work.now u c.in_ok-left.ensures.left)
    c.in_err-meet_in_halves.field-0.0 c.in_err-meet_in_halves.ensures.comes)

pub returns : goal.returns
returns g c =
    let s = g.K.Keeper.state c.args.keeper.now in
    let left = c.in_ok-left.left in
    let u = c.audit_left.new.tests in
    let same = own_map c.forms.result.now ∙ c.forms.ensures in
    judged_ends (meet_pairs first_tester Overlap) s.lots c.forms.result.now left.pairs.items c.deref.result.now (λ _. reply (clear left.live)) u c.meet_in_halves.new.work _ same c.deref.ensures.value (audit_met s c.requires.sound left.live left.pairs.items c.args.work.now u c.in_ok-left.ensures.left)
    c.in_ok-meet_in_halves.field-0.items c.in_ok-meet_in_halves.ensures.comes
