use Rattle.std.proofs.Common.{◌<◌, map, length, ap, sym, ◌∙◌, slice_get, refl, arith}
use Rattle.std.specs.Prelude.{option_map}
use Rattle.std.proofs.lemmas.List.{length-map}
use Rattle.std.proofs.lemmas.Option.{slice_get-map, slice_get_read}
use Rattle.rp_lotindex.specs.Indexed.{index_of}
use Rattle.rp_store.proofs.Together.{lots_counted, lot_parts_at}
use Rattle.rp_store.proofs.lots.Lots.form_at.Goals as goal

pub offset_bounds-items-place : goal.offset_bounds-items-place
offset_bounds-items-place g c =
    let i = c.self.inside in
    let within = c.requires in
    let same = ap length c.items.ensures ∙ sym (length-map i.forms.items g.F.Forms.parts_of) ∙ sym (lots_counted i.history (map g.F.Forms.parts_of i.forms.items) i.parts (index_of i.boxes) c.args.self.now c.self.invariant c.self.view_is) in
    omega (arith, within, same)

pub bounds-items-place : goal.bounds-items-place
bounds-items-place g c =
    let i = c.self.inside in
    let within = c.requires in
    let same = ap length c.items.ensures ∙ sym (length-map i.forms.items g.F.Forms.parts_of) ∙ sym (lots_counted i.history (map g.F.Forms.parts_of i.forms.items) i.parts (index_of i.boxes) c.args.self.now c.self.invariant c.self.view_is) in
    omega (arith, within, same)

pub returns : goal.returns
returns g c =
    let i = c.self.inside in
    let parts = g.F.Forms.parts_of in
    let within = c.requires in
    let same = ap length c.items.ensures ∙ sym (length-map i.forms.items parts) ∙ sym (lots_counted i.history (map parts i.forms.items) i.parts (index_of i.boxes) c.args.self.now c.self.invariant c.self.view_is) in
    let here : c.args.place < length c.items.result.now = omega (arith, within, same) in
    lot_parts_at i.history (map parts i.forms.items) i.parts (index_of i.boxes) c.args.self.now c.self.invariant c.self.view_is c.args.place
    ∙ slice_get-map parts i.forms.items c.args.place
    ∙ ap (λ forms. option_map parts (slice_get forms c.args.place)) (sym c.items.ensures)
    ∙ ap (option_map parts) (slice_get_read c.items.result.now (length c.items.result.now) c.args.place c.index-items-place.result refl here c.index-items-place.is)
