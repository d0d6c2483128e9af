use Rattle.std.proofs.Common.{◌≡◌, ◌≤◌, ◌+◌, ℕ, List, [], ◌∷◌, map, take, length, refl, sym, ap, ◌∙◌, subst, arith}
use Rattle.std.specs.Prelude.{option_map}
use Rattle.std.proofs.lemmas.List.{length-map, take-map}
use Rattle.std.proofs.lemmas.Option.{slice_get-map, slice_get_read}
use Rattle.rp_algebra.proofs.Lists.{take_all}
use Rattle.rp_geometry.specs.sets.Shape.{Part}
use Rattle.rp_language.specs.Name.{Label}
use Rattle.rp_model.specs.states.State.{NewLot}
use Rattle.rp_history.specs.declared.lot.Birth.{Birth}
use Rattle.rp_history.specs.Parts.{new_lots}
use Rattle.rp_lotindex.specs.Indexed.{boxes_of, index_of, ArePut, StaySame, OthersStay, AreBorn}
use Rattle.rp_store.proofs.Boxed.{new_layers, new_counted, new_lot, new_at, born_first, born_free, born_next, born_back, all_stay}
use Rattle.rp_store.proofs.boxes.add_all.Goals as goal

-- so many lots are as many new lots at most
so_far : (births : List Birth) (lists : List (List Part)) (i n : ℕ) → length births ≡ length lists → n ≡ length lists → i ≤ n → i ≤ length (new_lots births lists)
so_far births lists i n each same f = let many = new_counted births lists each in omega (arith, f, many, same)

pub loop-i-init : goal.loop-i-init
loop-i-init g c = born_first (index_of c.args.boxes.now) c.args.first c.requires.free

pub add-requires-clause-free : goal.add-requires-clause-free
add-requires-clause-free g c =
    let lists = map g.F.Forms.parts_of c.args.forms.now in
    let births = c.args.births.now in
    let l = c.loop-i in
    let many = length-map c.args.forms.now g.F.Forms.parts_of in
    born_free (index_of c.args.boxes.now) (index_of l.boxes) c.args.first l.i (new_lots births lists) (so_far births lists l.i (length c.args.forms.now) (c.requires.each ∙ sym many) (sym many) l.auto.i-end) l.invariant _

pub returns-in-Err-clause-err : goal.returns-in-Err-clause-err
returns-in-Err-clause-err g c =
    let lists = map g.F.Forms.parts_of c.args.forms.now in
    let births = c.args.births.now in
    let l = c.loop-i in
    let many = length-map c.args.forms.now g.F.Forms.parts_of in
    let own = sym (take-map (λ (a : NewLot (Unit {0})). a.layer) l.i (new_lots births lists)) ∙ ap (take l.i) (new_layers births lists (c.requires.each ∙ sym many)) ∙ take-map (λ (b : Birth). b.layer) l.i births in
    born_back (index_of c.args.boxes.now) (index_of l.boxes) (index_of c.add.new.self) (index_of c.remove_all.new.self) c.args.first (take l.i (new_lots births lists)) (map (λ b. b.layer) (take l.i births))
    c.requires.free l.invariant (all_stay (index_of l.boxes) (index_of c.add.new.self) c.index-births-i.result.layer
    (subst (λ (b : Birth). StaySame (index_of l.boxes b.layer) (index_of c.add.new.self b.layer)) (sym c.index-births-i.is) c.in-Err.ensures.err)
    (subst (λ (b : Birth). OthersStay b.layer (index_of l.boxes) (index_of c.add.new.self)) (sym c.index-births-i.is) c.in-Err.ensures.others)) own c.remove_all.ensures

pub loop-i-preserved : goal.loop-i-preserved
loop-i-preserved g c =
    let parts = g.F.Forms.parts_of in
    let births = c.args.births.now in
    let forms = c.args.forms.now in
    let lists = map parts forms in
    let l = c.loop-i in
    let here = c.loop-i-test.true in
    let each = c.requires.each in
    let many = length-map forms parts in
    let birth = c.index-births-i.result in
    let ps = parts c.index-forms-i.result in
    let at = new_at births lists l.i birth ps
    (slice_get_read births (length births) l.i birth refl (omega (arith, here, each)) c.index-births-i.is)
    (slice_get-map parts forms l.i ∙ ap (option_map parts) (slice_get_read forms (length forms) l.i c.index-forms-i.result refl here c.index-forms-i.is)) in
    born_next (index_of c.args.boxes.now) (index_of l.boxes) c.args.first l.i (new_lots births lists) (so_far births lists l.i (length forms) (each ∙ sym many) (sym many) l.auto.i-end) l.invariant (index_of c.add.new.self) (new_lot birth ps) at
    (subst (λ (b : Birth). ArePut (index_of l.boxes b.layer) (index_of c.add.new.self b.layer) (c.args.first + l.i) (boxes_of ps ∷ [])) (sym c.index-births-i.is) c.in_default.ensures.ok)
    (subst (λ (b : Birth). OthersStay b.layer (index_of l.boxes) (index_of c.add.new.self)) (sym c.index-births-i.is) c.in_default.ensures.others)

pub returns-clause-ok : goal.returns-clause-ok
returns-clause-ok g c =
    let parts = g.F.Forms.parts_of in
    let births = c.args.births.now in
    let forms = c.args.forms.now in
    let l = c.loop-i in
    let behind = c.loop-i-test.false in
    let many = length-map forms parts in
    let all = new_counted births (map parts forms) (c.requires.each ∙ sym many) in
    subst (AreBorn (index_of c.args.boxes.now) (index_of l.boxes) c.args.first) (take_all (new_lots births (map parts forms)) l.i (omega (arith, behind, many, all))) l.invariant
