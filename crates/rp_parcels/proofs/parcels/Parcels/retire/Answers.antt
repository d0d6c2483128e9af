use Rattle.std.proofs.Common.{◌+◌, List, [], ◌∷◌, refl, sym, ap, ◌∙◌, subst}
use Rattle.rp_model.specs.states.State.{Lot, lots_replaced}
use Rattle.rp_history.specs.Lots.{lots_in, lots_after, AreBornBefore}
use Rattle.rp_register_state.proofs.Applied.{later_births}
use Rattle.rp_parcels.specs.Kept.{AreSound}
use Rattle.rp_parcels.specs.Register.{IsLater}
use Rattle.rp_parcels.proofs.Fits.{retire_is_fit, retire_accepted, retire_refused}
use Rattle.rp_parcels.proofs.Later.{later_after}
use Rattle.rp_parcels.proofs.parcels.Parcels.retire.Goals as goal

pub end-requires : goal.end-requires
end-requires c = subst (AreBornBefore c.args.line) (sym c.self.view_is) (later_births c.args.line (lots_in [] c.args.self.now) c.requires)

pub invariant_of-self : goal.invariant_of-self
invariant_of-self c =
    let lots = c.args.self.now in
    subst AreSound (sym (c.end.ensures ∙ ap (λ (ls : List (Lot (Unit {0}))). lots_after c.args.line ls (lots_replaced (c.args.id ∷ []) [])) c.self.view_is))
    (retire_is_fit lots c.history.ensures.sound c.args.line c.requires c.args.id (retire_accepted lots c.args.id (c.in-Ok.ensures.checks (lots_in [] lots) c.history.ensures.value))).sound

pub returns-in-Ok-clause-row : goal.returns-in-Ok-clause-row
returns-in-Ok-clause-row c =
    let lots = c.args.self.now in
    record {
      ids = c.args.id ∷ [];
      new = [];
      says = retire_accepted lots c.args.id (c.in-Ok.ensures.checks (lots_in [] lots) c.history.ensures.value);
      lots = c.end.ensures ∙ ap (λ (ls : List (Lot (Unit {0}))). lots_after c.args.line ls (lots_replaced (c.args.id ∷ []) [])) c.self.view_is;
    }

pub returns-in-Ok-clause-sound : goal.returns-in-Ok-clause-sound
returns-in-Ok-clause-sound c =
    let lots = c.args.self.now in
    subst AreSound (sym (c.end.ensures ∙ ap (λ (ls : List (Lot (Unit {0}))). lots_after c.args.line ls (lots_replaced (c.args.id ∷ []) [])) c.self.view_is))
    (retire_is_fit lots c.history.ensures.sound c.args.line c.requires c.args.id (retire_accepted lots c.args.id (c.in-Ok.ensures.checks (lots_in [] lots) c.history.ensures.value))).sound

pub returns-in-Ok-clause-later : goal.returns-in-Ok-clause-later
returns-in-Ok-clause-later c =
    subst (IsLater (c.args.line + 1)) (sym (c.end.ensures ∙ ap (λ (ls : List (Lot (Unit {0}))). lots_after c.args.line ls (lots_replaced (c.args.id ∷ []) [])) c.self.view_is)) (later_after c.args.line c.args.self.now (c.args.id ∷ []) [] c.requires)

pub returns-in-Err-clause-row : goal.returns-in-Err-clause-row
returns-in-Err-clause-row c = (retire_refused c.args.self.now c.args.id c.in-Err.field-0 c.in-Err.ensures.fault (c.in-Err.ensures.checks (lots_in [] c.args.self.now) c.history.ensures.value), refl)
