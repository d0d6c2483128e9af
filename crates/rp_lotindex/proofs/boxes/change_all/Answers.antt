use Rattle.std.proofs.Common.{Some, sym, ap, ◌∙◌, arith}
use Rattle.std.specs.Prelude.{option_map}
use Rattle.std.proofs.lemmas.List.{length-map}
use Rattle.std.proofs.lemmas.Option.{slice_get-map}
use Rattle.rp_geometry.specs.Geometry.{IntegerBox}
use Rattle.rp_history.specs.Lots.{lot_of}
use Rattle.rp_lotindex.specs.Indexed.{box_by, boxes_by}
use Rattle.rp_lotindex.proofs.Put.{changed_first, changed_next, changed_all}
use Rattle.rp_lotindex.proofs.boxes.change_all.Goals as goal

pub loop-number-init : goal.loop-number-init
loop-number-init g c = changed_first c.args.index.now c.args.place (boxes_by (lot_of c.args.lot.now) (g.B.Bounded.boxes c.args.boxes.now))

pub loop-number-preserved : goal.loop-number-preserved
loop-number-preserved g c =
    let lot = lot_of c.args.lot.now in
    let all = g.B.Bounded.boxes c.args.boxes.now in
    changed_next c.args.index.now c.loop-number.index c.change.new.self c.args.place c.loop-number.number c.id_of.result (boxes_by lot all) c.settled-bounds.result c.change.result c.loop-number.invariant c.id_of.ensures
    c.change.ensures.there c.change.ensures.changed c.change.ensures.stays
    (slice_get-map (box_by lot) all c.loop-number.number ∙ ap (option_map (box_by lot)) c.bounds.ensures ∙ ap (λ (b : IntegerBox). Some b) (sym c.settled-bounds.ensures))

pub returns : goal.returns
returns g c =
    let l = c.loop-number in
    let boxes = g.B.Bounded.boxes c.args.boxes.now in
    let lot = lot_of c.args.lot.now in
    let last = l.auto.number-end in
    let behind = c.loop-number-test.false in
    let all = c.count-number-end.ensures.value in
    let few = c.count-number-end.ensures.few in
    let many = length-map boxes (box_by lot) in
    changed_all c.args.index.now l.index c.args.place l.number (boxes_by lot boxes) l.invariant (omega (arith, last, behind, all, many)) (omega (arith, last, few))
