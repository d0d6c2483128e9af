use Rattle.std.proofs.Common.{◌≡◌, ◌<◌, ℕ, List, map, length, Some, slice_get, refl, sym, ap, ◌∙◌, arith}
use Rattle.std.specs.Prelude.{option_map}
use Rattle.std.proofs.lemmas.List.{length-map}
use Rattle.std.proofs.lemmas.Option.{slice_get-map, slice_get_read}
use Rattle.rp_history.specs.Lots.{lot_of}
use Rattle.rp_lotindex.specs.Indexed.{index_of}
use Rattle.rp_store.proofs.Settled.{settled_here, settled_nowhere}
use Rattle.rp_store.proofs.settle.settle.Goals as goal

-- the item of an image
image_at : {A B : Type 0} (f : A → B) (xs : List A) (ys : List B) (k : ℕ) (x : A) → map f xs ≡ ys → k < length xs → slice_get xs k ≡ Some x → slice_get ys k ≡ Some (f x)
image_at f xs ys k x is within at = ap (λ zs. slice_get zs k) (sym is) ∙ slice_get-map f xs k ∙ ap (option_map f) at

pub returns-in-Some : goal.returns-in-Some
returns-in-Some g c =
    let a = c.args in
    let parts = g.F.Forms.parts_of in
    let k = c.in-Some.place in
    let within : k < length a.history.now = c.in-Some.ensures.within in
    let each = c.requires.each in
    let many = sym (ap length c.lots.ensures.value) ∙ length-map c.lots.result.now lot_of in
    let here : k < length c.lots.result.now = omega (arith, within, many) in
    let own : k < length a.forms.now = omega (arith, within, each) in
    let line = c.index-lots-place.result in
    let form = c.index-forms-place.result in
    let at = image_at lot_of c.lots.result.now a.history.now k line c.lots.ensures.value here (slice_get_read c.lots.result.now (length c.lots.result.now) k line refl here c.index-lots-place.is) in
    settled_here a.history.now (map parts a.forms.now) (c.requires.each ∙ sym (length-map a.forms.now parts)) a.id.now c.in-Some.ensures.distinct k (lot_of line) (parts form) (index_of a.boxes.now) (index_of c.settle.new.self) at (sym at ∙ c.in-Some.ensures.lot)
    (image_at parts a.forms.now (map parts a.forms.now) k form refl own (slice_get_read a.forms.now (length a.forms.now) k form refl own c.index-forms-place.is)) c.settle.ensures.settled c.settle.ensures.others

pub returns-in_default : goal.returns-in_default
returns-in_default g c =
    let a = c.args in
    let parts = g.F.Forms.parts_of in
    settled_nowhere a.history.now (map parts a.forms.now) (c.requires.each ∙ sym (length-map a.forms.now parts)) a.id.now c.in_default.ensures.distinct (index_of a.boxes.now) (sym c.in_default.ensures.lot)
