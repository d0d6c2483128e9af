use Rattle.std.specs.Vec.Iter.{into_iter_items}
use Rattle.std.proofs.Common.{◌++◌, ◌∙◌, List, map, sym, subst, refl, arith}
use Rattle.std.proofs.lemmas.List.{nil_from_length}
use Rattle.rp_history.specs.declared.lot.LotLine.{LotLine}
use Rattle.rp_history.specs.Lots.{lot_of}
use Rattle.rp_history.proofs.Appended.{AreToCome, next_come, none_come}
use Rattle.rp_history.proofs.births.append.Goals as goal

pub loop-lot-init : goal.loop-lot-init
loop-lot-init c =
    subst (λ (ls : List LotLine). AreToCome c.args.list.now.lots c.args.list.now.spare ls (c.args.list.now.lots ++ map lot_of c.args.born.items)) (sym (c.into_iter-lot-iterator.ensures.into_iter_gives.0 ∙ c.into_items-lot-items.ensures))
    (record { together = refl; room = c.requires.room; live = c.requires.live; fresh = c.requires.fresh; distinct = c.requires.distinct })

pub push-requires-clause-room : goal.push-requires-clause-room
push-requires-clause-room c =
    let h = subst (λ (ls : List LotLine). AreToCome c.loop-lot.list.lots c.loop-lot.list.spare ls (c.args.list.now.lots ++ map lot_of c.args.born.items)) c.in-Some.ensures.steps.0 c.loop-lot.invariant in
    let room = h.room in omega (arith, room)

pub push-requires-clause-live : goal.push-requires-clause-live
push-requires-clause-live c =
    (subst (λ (ls : List LotLine). AreToCome c.loop-lot.list.lots c.loop-lot.list.spare ls (c.args.list.now.lots ++ map lot_of c.args.born.items)) c.in-Some.ensures.steps.0 c.loop-lot.invariant).live.0

pub push-requires-clause-fresh : goal.push-requires-clause-fresh
push-requires-clause-fresh c =
    (subst (λ (ls : List LotLine). AreToCome c.loop-lot.list.lots c.loop-lot.list.spare ls (c.args.list.now.lots ++ map lot_of c.args.born.items)) c.in-Some.ensures.steps.0 c.loop-lot.invariant).fresh.0

pub loop-lot-preserved : goal.loop-lot-preserved
loop-lot-preserved c =
    let whole = c.args.list.now.lots ++ map lot_of c.args.born.items in
    let rest = into_iter_items c.next.new.self in
    next_come c.loop-lot.list.lots c.push.new.self.lots c.loop-lot.list.spare c.push.new.self.spare c.in-Some.lot rest whole
    (subst (λ (ls : List LotLine). AreToCome c.loop-lot.list.lots c.loop-lot.list.spare ls whole) c.in-Some.ensures.steps.0 c.loop-lot.invariant) c.push.ensures.lots c.push.ensures.spare

pub returns : goal.returns
returns c = none_come c.loop-lot.list.lots c.loop-lot.list.spare (into_iter_items c.loop-lot.lot-iterator) (c.args.list.now.lots ++ map lot_of c.args.born.items) c.loop-lot.invariant (nil_from_length (into_iter_items c.loop-lot.lot-iterator) (let ok = c.loop-lot.lot-iterator.rest.ok in let none = c.in-None.ensures.steps.0 in omega (arith, ok, none)))
