use Rattle.std.proofs.Common.{[]}
use Rattle.std.proofs.lemmas.Result.{err_from_is_err_and}
use Rattle.rp_model.specs.commands.Parts.{lot_parts}
use Rattle.rp_proximity.specs.Near.{others_in}
use Rattle.rp_proximity.specs.declared.reach.Reach.TheVariants.{Touch}
use Rattle.rp_oracle.proofs.Left.{stop_left}
use Rattle.rp_contacts.specs.Asked.{touch_counted}
use Rattle.rp_contacts.specs.Meets.{meet_each, contact_ids, parts_at}
use Rattle.rp_lots.proofs.Names.{names_end, parts_live}
use Rattle.rp_contacts.proofs.Contacts.{begins, told, told_met}
use Rattle.rp_contacts.proofs.touching.pending_contacts.Goals as goal

pub returns-in_err-place-clause-left : goal.returns-in_err-place-clause-left
returns-in_err-place-clause-left g c =
    let p = err_from_is_err_and c.from_residual.result c.from_residual.ensures.1 in
    let s = g.K.Keeper.state c.args.keeper.now in
    rw (p.1, p.2) (names_end c.in_err-place.field-0.0 _ _ c.args.tests.now (c.in_err-place.ensures.checks s c.history-history.ensures.value))

pub layer_of-layer-requires : goal.layer_of-layer-requires
layer_of-layer-requires g c s same = c.in_ok-place.ensures.checks s same

pub contacts_left-requires : goal.contacts_left-requires
contacts_left-requires g c = c.in_ok-place.ensures.within (g.K.Keeper.state c.args.keeper.now) c.history-history.ensures.value

pub returns-in_err-contacts_left-clause-left : goal.returns-in_err-contacts_left-clause-left
returns-in_err-contacts_left-clause-left g c =
    let p = err_from_is_err_and c.from_residual-in_err-contacts_left.result c.from_residual-in_err-contacts_left.ensures.1 in
    let s = g.K.Keeper.state c.args.keeper.now in
    let x = c.args.id in
    let k = c.in_ok-place.place in
    let y = c.layer_of-layer.result in
    let ps = parts_at s.lots k in
    let same = c.history-history.ensures.value in
    rw (p.1, p.2)
    (stop_left (touch_counted g.T.Oracle.tester ps (others_in y x s.lots)) (told g.T.Oracle.tester s x)
    (begins g.T.Oracle.tester s x y ps c.args.tests.now (c.in_ok-place.ensures.checks s same) (parts_live x s k (c.in_ok-place.ensures.within s same) (c.in_ok-place.ensures.lot s same)) (c.layer_of-layer.ensures s same))
    c.in_err-contacts_left.field-0.0 c.contacts_left.new.tests c.in_err-contacts_left.ensures.left)

pub returns-clause-left : goal.returns-clause-left
returns-clause-left g c =
    let s = g.K.Keeper.state c.args.keeper.now in
    let tester = g.T.Oracle.tester in
    let x = c.args.id in
    let k = c.in_ok-place.place in
    let y = c.layer_of-layer.result in
    let left = c.in_ok-contacts_left.field-0 in
    let same = c.history-history.ensures.value in
    told_met tester s x y (parts_at s.lots k) c.args.tests.now (c.in_ok-place.ensures.checks s same) (parts_live x s k (c.in_ok-place.ensures.within s same) (c.in_ok-place.ensures.lot s same)) (c.layer_of-layer.ensures s same)
    (contact_ids s.lots left.places.items) (meet_each tester Touch (lot_parts s.lots) [] left.pairs.items c.contacts_left.new.tests) c.in_ok-contacts_left.ensures.left
