use Rattle.std.proofs.Common.{List, [], map, length, refl, sym, ap, ◌∙◌}
use Rattle.std.proofs.lemmas.List.{length-map}
use Rattle.std.proofs.lemmas.Result.{err_from_is_err_and}
use Rattle.rp_semantics.specs.Walk.{pass, after_first}
use Rattle.rp_model.specs.commands.Parts.{lot_parts}
use Rattle.rp_proximity.specs.declared.reach.Reach.TheVariants.{Touch}
use Rattle.rp_proximity.specs.Near.{others_in, pairs_with}
use Rattle.rp_lots.specs.declared.near.Near.{Near}
use Rattle.rp_contacts.specs.declared.pair.Pair.{Pair}
use Rattle.rp_contacts.specs.Meets.{pair_of, meet_each, contact_ids}
use Rattle.rp_lots.proofs.Sieved.{short_at}
use Rattle.rp_lots.proofs.Counted.{count_lost}
use Rattle.rp_contacts.proofs.Meeting.{pairs_within}
use Rattle.rp_contacts.proofs.Contacts.{parts_item, count_stops, pairs_left}
use Rattle.rp_contacts.proofs.touching.contacts_left.Goals as goal

pub lots_near-requires-clause-few : goal.lots_near-requires-clause-few
lots_near-requires-clause-few g c = short_at (g.K.Keeper.state c.args.keeper.now).lots c.history-history.ensures.short c.args.place (g.T.Oracle.parts_of c.form_at-form.result.now) c.form_at-form.ensures

pub returns-in_err-near-clause-left : goal.returns-in_err-near-clause-left
returns-in_err-near-clause-left g c =
    let p = err_from_is_err_and c.from_residual.result c.from_residual.ensures.1 in
    let s = g.K.Keeper.state c.args.keeper.now in
    let ps = g.T.Oracle.parts_of c.form_at-form.result.now in
    let others = others_in c.args.layer.now c.args.id.now s.lots in
    let tester = g.T.Oracle.tester in
    let e = c.in_err-near.field-0.0 in
    let n = pairs_with Touch ps others in
    rw (p.1, p.2)
    (count_stops tester s c.args.place n ps others c.args.tests.now (λ i. n) (parts_item s.lots c.args.place ps c.form_at-form.ensures) e c.args.tests.now
    (count_lost (λ (near : Near). near.pairs) tester.count c.keep_limit.ensures e n c.args.tests.now c.in_err-near.ensures.pairs))

pub returns-in_err-count_tests-clause-left : goal.returns-in_err-count_tests-clause-left
returns-in_err-count_tests-clause-left g c =
    let p = err_from_is_err_and c.from_residual-in_err-count_tests.result c.from_residual-in_err-count_tests.ensures.1 in
    let s = g.K.Keeper.state c.args.keeper.now in
    let ps = g.T.Oracle.parts_of c.form_at-form.result.now in
    let others = others_in c.args.layer.now c.args.id.now s.lots in
    rw (p.1, p.2)
    (count_stops g.T.Oracle.tester s c.args.place c.in_ok-near.near.pairs ps others c.args.tests.now c.in_ok-near.ensures.pairs.0 (parts_item s.lots c.args.place ps c.form_at-form.ensures) c.in_err-count_tests.field-0.0 c.count_tests.new.tests c.in_err-count_tests.ensures)

pub returns-clause-within : goal.returns-clause-within
returns-clause-within g c =
    let lots = (g.K.Keeper.state c.args.keeper.now).lots in
    let k = c.args.place in
    pairs_within lots lots k c.in_ok-near.near.places.items c.in_ok-pairs.pairs.items refl c.requires c.in_ok-near.ensures.within (c.in_ok-pairs.ensures ∙ ap (map (pair_of k)) c.items.ensures)

pub returns-clause-each : goal.returns-clause-each
returns-clause-each g c =
    let k = c.args.place in
    ap length (c.in_ok-pairs.ensures ∙ ap (map (pair_of k)) c.items.ensures) ∙ length-map c.in_ok-near.near.places.items (pair_of k)

pub returns-clause-left : goal.returns-clause-left
returns-clause-left g c =
    let s = g.K.Keeper.state c.args.keeper.now in
    let tester = g.T.Oracle.tester in
    let k = c.args.place in
    let ps = g.T.Oracle.parts_of c.form_at-form.result.now in
    let others = others_in c.args.layer.now c.args.id.now s.lots in
    let ks = c.in_ok-near.near.places.items in
    let u = c.count_tests.new.tests in
    let pairs = c.in_ok-pairs.ensures ∙ ap (map (pair_of k)) c.items.ensures in
    pairs_left tester s k c.in_ok-near.near.pairs ps others c.args.tests.now c.in_ok-near.ensures.pairs.0 (parts_item s.lots k ps c.form_at-form.ensures) ks u c.in_ok-near.ensures.lots c.in_ok-near.ensures.within c.in_ok-count_tests.ensures
    ∙ ap (λ (qs : List Pair). after_first (λ met. pass (contact_ids s.lots ks met)) (meet_each tester Touch (lot_parts s.lots) [] qs u)) (sym pairs)
