use Rattle.std.proofs.Common.{◌≤◌, ◌++◌, List, map, length, sum_by, sym, ap, ap₂, ◌∙◌, subst, arith}
use Rattle.std.proofs.lemmas.List.{length-append, length-map, map-append}
use Rattle.rp_geometry.specs.sets.Shape.{Part}
use Rattle.rp_language.specs.Name.{is_among}
use Rattle.rp_model.specs.states.State.{Lot, ended_at, born_at, lots_replaced}
use Rattle.rp_states.proofs.Plain.{image_sums}
use Rattle.rp_history.specs.Lots.{new_lot_of, lots_after, AreBornBefore, AreNew}
use Rattle.rp_history.specs.Parts.{lots_with_parts, new_lots}
use Rattle.rp_history.proofs.Together.{born_before, new_to_history, after_with_parts, parts_after, new_parts}
use Rattle.rp_lotindex.specs.Indexed.{index_of, AreBorn, AreSettled}
use Rattle.rp_store.specs.Kept.{AreFew, AreLots}
use Rattle.rp_store.proofs.Together.{lots_parts, lots_kept_after}
use Rattle.rp_store.proofs.Boxed.{room_for, free_behind, lots_stay, indexed_replaced}
use Rattle.rp_store.proofs.lots.Lots.replace.Goals as goal

pub count_parts-parts-requires : goal.count_parts-parts-requires
count_parts-parts-requires g c =
    let parts = g.F.Forms.parts_of in
    let new = new_lots c.args.births.now (map parts c.args.forms.items) in
    let few = c.requires.few.few_parts in
    let all = parts_after c.args.line c.args.ends.now new c.args.self.now in
    let own = new_parts c.args.births.now (map parts c.args.forms.items) (c.requires.each ∙ sym (length-map c.args.forms.items parts)) ∙ image_sums parts (λ (ps : List Part). length ps) c.args.forms.items ∙ ap (sum_by (λ f. length (parts f))) (sym c.items-added.ensures) in
    omega (arith, few, all, own)

pub take_in-requires-clause-each : goal.take_in-requires-clause-each
take_in-requires-clause-each g c = c.requires.each ∙ sym (ap length c.items-added.ensures)

pub take_in-requires-clause-small : goal.take_in-requires-clause-small
take_in-requires-clause-small g c =
    let i = c.self.inside in
    let parts = g.F.Forms.parts_of in
    let more = map parts c.args.forms.items in
    let room = room_for i.history (map parts i.forms.items) i.parts (index_of i.boxes) c.self.invariant (length i.forms.items) (sym (length-map i.forms.items parts)) c.args.line c.args.ends.now c.args.births.now more (c.requires.each ∙ sym (length-map c.args.forms.items parts))
    (subst (λ (ls : List (Lot (Unit {0}))). AreFew (lots_after c.args.line ls (lots_replaced c.args.ends.now (new_lots c.args.births.now more)))) (sym c.self.view_is) c.requires.few) in
    let new = ap length c.items-added.ensures in
    let many = length-map c.args.forms.items parts in
    omega (arith, room, new, many)

pub take_in-requires-clause-free : goal.take_in-requires-clause-free
take_in-requires-clause-free g c =
    let i = c.self.inside in
    let parts = g.F.Forms.parts_of in
    free_behind i.history (map parts i.forms.items) i.parts (index_of i.boxes) c.self.invariant (length i.forms.items) (sym (length-map i.forms.items parts))

pub take_in-requires-clause-later : goal.take_in-requires-clause-later
take_in-requires-clause-later g c =
    let i = c.self.inside in
    born_before c.args.line i.history (map g.F.Forms.parts_of i.forms.items) c.self.invariant.each (subst (AreBornBefore c.args.line) (sym c.self.view_is) c.requires.later)

pub take_in-requires-clause-new : goal.take_in-requires-clause-new
take_in-requires-clause-new g c =
    let i = c.self.inside in
    let parts = g.F.Forms.parts_of in
    let more = map parts c.args.forms.items in
    new_to_history i.history (map parts i.forms.items) c.args.births.now more c.self.invariant.each (c.requires.each ∙ sym (length-map c.args.forms.items parts))
    (subst (λ (ls : List (Lot (Unit {0}))). AreNew ls (new_lots c.args.births.now more)) (sym c.self.view_is) c.requires.new)

pub invariant_of-self : goal.invariant_of-self
invariant_of-self g c =
    let i = c.self.inside in
    let parts = g.F.Forms.parts_of in
    let new = c.take_in.new in
    subst (λ (history : List (Lot (Unit {0}))). AreLots history (map parts new.kept.items) i.parts (index_of new.boxes)) (sym c.in_err-take_in.ensures.stays)
    (subst (λ (forms : List _). AreLots i.history (map parts forms) i.parts (index_of new.boxes)) (sym c.in_err-take_in.ensures.kept)
    (lots_stay i.history (map parts i.forms.items) i.parts (index_of i.boxes) c.self.invariant (length i.forms.items) (sym (length-map i.forms.items parts)) (index_of new.boxes) c.in_err-take_in.ensures.same))

pub unwrap-requires : goal.unwrap-requires
unwrap-requires g c = c.append.ensures.room (subst (λ (fs : List _). length fs ≤ c.take_in.new.kept.spare) c.items-added.ensures c.in_ok-take_in.ensures.room)

pub settle_all-requires-clause-each : goal.settle_all-requires-clause-each
settle_all-requires-clause-each g c =
    let i = c.self.inside in
    let parts = g.F.Forms.parts_of in
    let new = c.args.births.now in
    let appended = rw c.unwrap.ensures at c.append.ensures.ok in
    let forms = ap length c.items.ensures ∙ ap length (appended ∙ ap (λ (fs : List _). fs ++ c.args.forms.items) c.in_ok-take_in.ensures.kept) ∙ length-append i.forms.items c.args.forms.items in
    let lots = ap length c.in_ok-take_in.ensures.lots ∙ length-append (map (ended_at c.args.line c.args.ends.now) i.history) (map (born_at c.args.line) (map new_lot_of new)) in
    let old = length-map i.history (ended_at c.args.line c.args.ends.now) in
    let born = length-map (map new_lot_of new) (born_at c.args.line) ∙ length-map new new_lot_of in
    let before = c.self.invariant.each ∙ length-map i.forms.items parts in
    let each = c.requires.each in
    omega (arith, forms, lots, old, born, before, each)

pub settle_all-requires-clause-few : goal.settle_all-requires-clause-few
settle_all-requires-clause-few g c =
    let i = c.self.inside in
    let parts = g.F.Forms.parts_of in
    let more = map parts c.args.forms.items in
    let new = c.args.births.now in
    let first = sym (length-map i.forms.items parts) in
    let room = room_for i.history (map parts i.forms.items) i.parts (index_of i.boxes) c.self.invariant (length i.forms.items) first c.args.line c.args.ends.now new more (c.requires.each ∙ sym (length-map c.args.forms.items parts))
    (subst (λ (ls : List (Lot (Unit {0}))). AreFew (lots_after c.args.line ls (lots_replaced c.args.ends.now (new_lots new more)))) (sym c.self.view_is) c.requires.few) in
    let lots = ap length c.in_ok-take_in.ensures.lots ∙ length-append (map (ended_at c.args.line c.args.ends.now) i.history) (map (born_at c.args.line) (map new_lot_of new)) in
    let old = length-map i.history (ended_at c.args.line c.args.ends.now) in
    let born = length-map (map new_lot_of new) (born_at c.args.line) ∙ length-map new new_lot_of in
    let before = c.self.invariant.each in
    let each = c.requires.each ∙ sym (length-map c.args.forms.items parts) in
    omega (arith, room, lots, old, born, before, each, first)

pub overflow_add-self : goal.overflow_add-self
overflow_add-self g c =
    let i = c.self.inside in
    let parts = g.F.Forms.parts_of in
    let new = new_lots c.args.births.now (map parts c.args.forms.items) in
    let few = c.requires.few.few_parts in
    let all = parts_after c.args.line c.args.ends.now new c.args.self.now in
    let own = new_parts c.args.births.now (map parts c.args.forms.items) (c.requires.each ∙ sym (length-map c.args.forms.items parts)) ∙ image_sums parts (λ (ps : List Part). length ps) c.args.forms.items ∙ ap (sum_by (λ f. length (parts f))) (sym c.items-added.ensures) ∙ sym c.count_parts-parts.ensures in
    let before = lots_parts i.history (map parts i.forms.items) i.parts (index_of i.boxes) c.args.self.now c.self.invariant c.self.view_is in
    omega (arith, few, all, own, before)

pub invariant_of-self-2 : goal.invariant_of-self-2
invariant_of-self-2 g c =
    let i = c.self.inside in
    let parts = g.F.Forms.parts_of in
    let more = map parts c.args.forms.items in
    let each = c.requires.each ∙ sym (length-map c.args.forms.items parts) in
    let first = sym (length-map i.forms.items parts) in
    let appended = rw c.unwrap.ensures at c.append.ensures.ok in
    let all = ap (map parts) (appended ∙ ap (λ (fs : List _). fs ++ c.args.forms.items) c.in_ok-take_in.ensures.kept) ∙ map-append parts i.forms.items c.args.forms.items in
    let put = subst (λ (fs : List _). AreBorn (index_of i.boxes) (index_of c.take_in.new.boxes) (length i.forms.items) (new_lots c.args.births.now (map parts fs))) c.items-added.ensures c.in_ok-take_in.ensures.put in
    let together = ap₂ lots_with_parts c.in_ok-take_in.ensures.lots (ap (map parts) c.items.ensures ∙ all) ∙ after_with_parts c.args.line c.args.ends.now c.args.births.now i.history (map parts i.forms.items) more c.self.invariant.each in
    let settled = subst (λ (ls : List (Lot (Unit {0}))). AreSettled ls (λ y. is_among y c.args.ends.now) (index_of c.take_in.new.boxes) (index_of c.settle_all.new.boxes)) together c.settle_all.ensures in
    let indexed = indexed_replaced i.history (map parts i.forms.items) i.parts (index_of i.boxes) c.self.invariant (length i.forms.items) first c.args.line c.args.ends.now c.args.births.now more
    (index_of c.take_in.new.boxes) (index_of c.settle_all.new.boxes) put settled in
    lots_kept_after c.args.line c.args.ends.now c.args.births.now i.history c.take_in.new.history (map parts i.forms.items) more (map parts c.append.new.self.items) i.parts c.count_parts-parts.result (index_of i.boxes) (index_of c.settle_all.new.boxes) c.self.invariant each
    (subst (λ (ls : List (Lot (Unit {0}))). AreFew (lots_after c.args.line ls (lots_replaced c.args.ends.now (new_lots c.args.births.now more)))) (sym c.self.view_is) c.requires.few)
    c.in_ok-take_in.ensures.well.distinct c.in_ok-take_in.ensures.lots all
    (c.count_parts-parts.ensures ∙ ap (sum_by (λ f. length (parts f))) c.items-added.ensures ∙ sym (image_sums parts (λ (ps : List Part). length ps) c.args.forms.items)) indexed

pub returns-clause-ok : goal.returns-clause-ok
returns-clause-ok g c =
    let i = c.self.inside in
    let parts = g.F.Forms.parts_of in
    let more = map parts c.args.forms.items in
    let appended = rw c.unwrap.ensures at c.append.ensures.ok in
    let all = ap (map parts) (appended ∙ ap (λ (fs : List _). fs ++ c.args.forms.items) c.in_ok-take_in.ensures.kept) ∙ map-append parts i.forms.items c.args.forms.items in
    ap₂ lots_with_parts c.in_ok-take_in.ensures.lots all
    ∙ after_with_parts c.args.line c.args.ends.now c.args.births.now i.history (map parts i.forms.items) more c.self.invariant.each
    ∙ ap (λ (ls : List (Lot (Unit {0}))). lots_after c.args.line ls (lots_replaced c.args.ends.now (new_lots c.args.births.now more))) c.self.view_is
