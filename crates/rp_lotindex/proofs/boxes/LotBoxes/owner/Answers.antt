use Rattle.std.proofs.Common.{◌≡◌, ◌<◌, ℕ, List, map, length, get_or, Some, slice_get, sym, ap, ◌∙◌, subst, arith}
use Rattle.std.specs.Prelude.{option_map}
use Rattle.std.proofs.lemmas.List.{length-map}
use Rattle.std.proofs.lemmas.Option.{slice_get-map, slice_get-get_or}
use Rattle.rp_model.specs.states.State.{Lot}
use Rattle.rp_space.specs.Boxes.{integer_box}
use Rattle.rp_history.specs.declared.lot.LotLine.{LotLine}
use Rattle.rp_history.specs.Lots.{lot_of}
use Rattle.rp_lotindex.specs.Indexed.{index_of}
use Rattle.rp_lotindex.specs.Owner.{IsOwner}
use Rattle.rp_lotindex.proofs.Owned.{outside_owner, found_within, owner_missing, owner_found}
use Rattle.rp_lotindex.proofs.boxes.LotBoxes.owner.Goals as goal

-- the line of a place of a history
line_at : (lines : List LotLine) (history : List (Lot (Unit {0}))) (k : ℕ) (d : LotLine) → map lot_of lines ≡ history → k < length lines → slice_get history k ≡ Some (lot_of (get_or lines k d))
line_at lines history k d e within = ap (λ (ls : List (Lot (Unit {0}))). slice_get ls k) (sym e) ∙ slice_get-map lot_of lines k ∙ ap (option_map lot_of) (slice_get-get_or lines k d within)

pub returns-then-not-is_in_cube : goal.returns-then-not-is_in_cube
returns-then-not-is_in_cube g c =
    let a = c.args in
    outside_owner (g.H.Holder.has a.holder.now) a.layer.now a.moment a.p.now a.history.now (index_of a.self.now) (sym c.is_in_cube.ensures ∙ c.if-not-is_in_cube.true)

pub returns-in_err-id : goal.returns-in_err-id
returns-in_err-id g c =
    let a = c.args in
    let has = g.H.Holder.has a.holder.now in
    subst (IsOwner has a.layer.now a.moment a.p.now a.history.now (index_of a.self.now)) (sym c.from_residual.ensures)
    (owner_missing has a.layer.now a.moment a.p.now a.history.now (index_of a.self.now) (integer_box c.unit_box.result) c.unit_box.ensures c.show_line.ensures (sym c.first.ensures ∙ c.in_err-id.was))

pub bounds-lots-place : goal.bounds-lots-place
bounds-lots-place g c =
    let a = c.args in
    let has = g.H.Holder.has a.holder.now in
    let within = found_within has a.layer.now a.moment a.p.now a.history.now (index_of a.self.now) (integer_box c.unit_box.result) c.unit_box.ensures c.show_line.ensures c.in_ok-id.id (sym c.first.ensures ∙ c.in_ok-id.was) in
    let many = sym (ap length c.lots.ensures.value) ∙ length-map c.lots.result.now lot_of in
    let own = c.place_of-place.ensures in
    omega (arith, within, many, own)

pub bounds-lots-place-in_ok-id : goal.bounds-lots-place-in_ok-id
bounds-lots-place-in_ok-id g c = bounds-lots-place g c

pub returns : goal.returns
returns g c =
    let a = c.args in
    let has = g.H.Holder.has a.holder.now in
    let unit = integer_box c.unit_box.result in
    let id = c.in_ok-id.id in
    let found = sym c.first.ensures ∙ c.in_ok-id.was in
    let within = found_within has a.layer.now a.moment a.p.now a.history.now (index_of a.self.now) unit c.unit_box.ensures c.show_line.ensures id found in
    let many = sym (ap length c.lots.ensures.value) ∙ length-map c.lots.result.now lot_of in
    let k = c.place_of-place.result in
    let own = c.place_of-place.ensures in
    let here : k < length c.lots.result.now = omega (arith, within, many, own) in
    owner_found has a.layer.now a.moment a.p.now a.history.now (index_of a.self.now) unit c.unit_box.ensures c.show_line.ensures id
    (lot_of (get_or c.lots.result.now k c.index-lots-place.result)) found
    (ap (slice_get a.history.now) (sym own) ∙ line_at c.lots.result.now a.history.now k c.index-lots-place.result c.lots.ensures.value here)
