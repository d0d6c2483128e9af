use Rattle.std.proofs.Common.{List, sym, ap, ◌∙◌, subst}
use Rattle.std.proofs.lemmas.List.{map-id}
use Rattle.rp_geometry.specs.sets.Shape.{Part}
use Rattle.rp_language.specs.Name.{Label}
use Rattle.rp_model.specs.states.State.{lots_replaced}
use Rattle.rp_history.specs.declared.lot.Birth.{Birth}
use Rattle.rp_history.specs.Lots.{lots_after}
use Rattle.rp_history.specs.Parts.{new_lots}
use Rattle.rp_parcels.specs.Register.{IsFitChange}
use Rattle.rp_parcels.proofs.Taken.{taken_fits}
use Rattle.rp_parcels.proofs.parcels.Parcels.make.Goals as goal

pub replace-requires-clause-fit : goal.replace-requires-clause-fit
replace-requires-clause-fit c =
    let r = c.in_ok-ends.field-0 in
    subst (λ (ids : List Label). IsFitChange c.args.line c.args.self.now ids (new_lots c.items-2.result.now r.forms.items)) (sym c.items.ensures)
    (subst (λ (bs : List Birth). IsFitChange c.args.line c.args.self.now r.ends.items (new_lots bs r.forms.items)) (sym c.items-2.ensures)
    (taken_fits c.args.line c.args.self.now c.args.came r c.in_ok-ends.ensures.taken.0 c.requires.fit))

pub returns-clause-made : goal.returns-clause-made
returns-clause-made c =
    let r = c.in_ok-ends.field-0 in
    let after = λ (ids : List Label) (bs : List Birth) (fs : List (List Part)). lots_after c.args.line c.args.self.now (lots_replaced ids (new_lots bs fs)) in (
      r,
      c.in_ok-ends.ensures.taken,
      c.in_ok-replace.ensures.ok
          ∙ ap (λ (ids : List Label). after ids c.items-2.result.now r.forms.items) c.items.ensures
          ∙ ap (λ (bs : List Birth). after r.ends.items bs r.forms.items) c.items-2.ensures
          ∙ ap (λ (fs : List (List Part)). after r.ends.items r.births.items fs) (sym (map-id r.forms.items)),
    )
