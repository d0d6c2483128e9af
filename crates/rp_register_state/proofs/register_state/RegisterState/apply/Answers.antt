use Rattle.std.proofs.Common.{List, map, sym, subst}
use Rattle.rp_geometry.specs.sets.Shape.{Part}
use Rattle.rp_geometry.specs.parts.Parts.{IsCheckedPart}
use Rattle.rp_model.specs.states.State.{NewLot, PlainState, changed, lots_replaced, state_of_parts}
use Rattle.rp_model.specs.states.Sound.{IsLaterThan}
use Rattle.rp_history.specs.Parts.{new_lots}
use Rattle.rp_lots.specs.declared.change.Change.{Change}
use Rattle.rp_lots.specs.declared.change.Replaced.{Replaced}
use Rattle.rp_lots.specs.Changes.{change_of}
use Rattle.rp_store.specs.Kept.{state_with}
use Rattle.rp_register_state.specs.Taken.{IsTaken}
use Rattle.rp_register_state.proofs.Applied.{name_is_new, sound_are_few, later_births, lots_are_new}
use Rattle.rp_register_state.proofs.register_state.RegisterState.apply.Goals as goal

pub keep-requires : goal.keep-requires
keep-requires g c =
    let i = c.self.inside in
    let view = g.F.Forms.parts_of in
    let s = state_with i.layer i.names i.lots in
    name_is_new i.layer i.names i.lots c.in-Named.name (view c.in-Named.form)
    (subst (λ (ch : Change _). IsTaken IsCheckedPart c.args.n s (change_of view ch)) c.in-Named.is (subst (λ (s : PlainState). IsTaken IsCheckedPart c.args.n s (change_of view c.args.change)) (sym c.self.view_is) c.requires.taken)).sound

pub replace-requires-clause-later : goal.replace-requires-clause-later
replace-requires-clause-later g c =
    let i = c.self.inside in
    later_births c.args.n (state_with i.layer i.names i.lots) (subst (λ (s : PlainState). IsLaterThan c.args.n (state_of_parts s)) (sym c.self.view_is) c.requires.later)

-- the lots that are born
abbrev born : {F : Type 0} → (F → List Part) → Replaced F → List (NewLot (Unit {0}))
born view r = new_lots r.births.items (map view r.forms.items)

pub replace-requires-clause-new : goal.replace-requires-clause-new
replace-requires-clause-new g c =
    let i = c.self.inside in
    let view = g.F.Forms.parts_of in
    let s = state_with i.layer i.names i.lots in
    let taken = subst (λ (ch : Change _). IsTaken IsCheckedPart c.args.n s (change_of view ch)) c.in-Replaced.is (subst (λ (t : PlainState). IsTaken IsCheckedPart c.args.n t (change_of view c.args.change)) (sym c.self.view_is) c.requires.taken) in
    lots_are_new c.args.n s c.in-Replaced.change.ends.items (born view c.in-Replaced.change) taken.known taken.sound

pub replace-requires-clause-few : goal.replace-requires-clause-few
replace-requires-clause-few g c =
    let i = c.self.inside in
    let view = g.F.Forms.parts_of in
    let s = state_with i.layer i.names i.lots in
    let taken = subst (λ (ch : Change _). IsTaken IsCheckedPart c.args.n s (change_of view ch)) c.in-Replaced.is (subst (λ (t : PlainState). IsTaken IsCheckedPart c.args.n t (change_of view c.args.change)) (sym c.self.view_is) c.requires.taken) in
    sound_are_few (changed c.args.n s (lots_replaced c.in-Replaced.change.ends.items (born view c.in-Replaced.change))) taken.sound
