use Rattle.std.proofs.Common.{◌+◌, List, drop, ap₂, sym, subst}
use Rattle.rp_geometry.specs.sets.Shape.{Part}
use Rattle.rp_model.specs.states.State.{Lot}
use Rattle.rp_proximity.specs.Near.{pairs_with, others_in}
use Rattle.rp_lots.specs.declared.near.Near.{Near}
use Rattle.rp_lots.specs.Counted.{CountsUpTo}
use Rattle.rp_contacts.proofs.Contacts.{parts_item}
use Rattle.rp_contacts.proofs.Paired.{own_distinct, others_are, near_behind}
use Rattle.rp_lots.proofs.Sieved.{short_at}
use Rattle.rp_contacts.proofs.behind.later_near.Goals as goal

pub lots_near-requires-clause-few : goal.lots_near-requires-clause-few
lots_near-requires-clause-few g c = short_at (g.K.Keeper.state c.args.keeper.now).lots c.history.ensures.short c.args.place (g.T.Oracle.parts_of c.form_at-form.result.now) c.form_at-form.ensures

pub returns-clause-pairs : goal.returns-clause-pairs
returns-clause-pairs g c =
    let lots = (g.K.Keeper.state c.args.keeper.now).lots in
    let k = c.args.place in
    let own = sym (parts_item lots k (g.T.Oracle.parts_of c.form_at-form.result.now) c.form_at-form.ensures) in
    let distinct = own_distinct lots c.history.result.now c.history.ensures.value c.lots.ensures.well.distinct in
    let others = others_are lots distinct c.history.result.now c.lots.result.now c.history.ensures.value c.lots.ensures.value k c.index-lots-place.result c.requires c.index-lots-place.is in
    subst (CountsUpTo (λ (near : Near). near.pairs) c.lots_near.result) (ap₂ (λ (ps : List Part) (ls : List (Lot (Unit {0}))). pairs_with c.args.reach ps ls) own others) c.lots_near.ensures.pairs

pub returns-clause-near : goal.returns-clause-near
returns-clause-near g c =
    let lots = (g.K.Keeper.state c.args.keeper.now).lots in
    let k = c.args.place in
    let ps = g.T.Oracle.parts_of c.form_at-form.result.now in
    let own = sym (parts_item lots k ps c.form_at-form.ensures) in
    let distinct = own_distinct lots c.history.result.now c.history.ensures.value c.lots.ensures.well.distinct in
    let others = others_are lots distinct c.history.result.now c.lots.result.now c.history.ensures.value c.lots.ensures.value k c.index-lots-place.result c.requires c.index-lots-place.is in
    near_behind c.args.reach lots k ps (others_in c.index-lots-place.result.layer c.index-lots-place.result.id (drop (k + 1) lots)) c.lots_near.result own others c.lots_near.ensures.within c.lots_near.ensures.lots
