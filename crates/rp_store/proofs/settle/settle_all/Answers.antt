use Rattle.std.proofs.Common.{◌+◌, List, [], ◌∷◌, ◌++◌, map, take, sym, ap, ◌∙◌, subst}
use Rattle.std.proofs.lemmas.List.{take_all, take_more}
use Rattle.rp_language.specs.Name.{Label, is_among}
use Rattle.rp_history.specs.Parts.{lots_with_parts}
use Rattle.rp_lotindex.specs.Indexed.{index_of, AreSettled}
use Rattle.rp_lotindex.proofs.Settled.{settled_next}
use Rattle.rp_store.proofs.settle.settle_all.Goals as goal

pub loop-id-preserved : goal.loop-id-preserved
loop-id-preserved g c y =
    let ids = c.args.ids.now in
    let i = c.loop-id.id-index in
    settled_next y (lots_with_parts c.args.history.now (map g.F.Forms.parts_of c.args.forms.now)) (take i ids) (take (i + 1) ids) c.id-item.result (index_of c.args.boxes.now y) (index_of c.loop-id.boxes y) (index_of c.settle.new.boxes y)
    (take_more ids i c.id-item.result c.loop-id-test.true ∙ ap (λ (x : Label). take i ids ++ x ∷ []) (sym c.id-item.is)) (c.loop-id.invariant y) (c.settle.ensures y)

pub returns : goal.returns
returns g c =
    subst (λ (xs : List Label). AreSettled (lots_with_parts c.args.history.now (map g.F.Forms.parts_of c.args.forms.now)) (λ y. is_among y xs) (index_of c.args.boxes.now) (index_of c.loop-id.boxes))
    (take_all c.loop-id.id-index c.args.ids.now c.loop-id-test.false) c.loop-id.invariant
