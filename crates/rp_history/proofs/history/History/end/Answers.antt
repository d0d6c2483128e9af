use Rattle.std.proofs.Common.{◌∷◌, [], List, sym, subst}
use Rattle.rp_model.specs.states.State.{Lot}
use Rattle.rp_history.specs.Lots.{AreBornBefore, AreKeptWell}
use Rattle.rp_history.proofs.KeptWell.{well_ended}
use Rattle.rp_history.proofs.history.History.end.Goals as goal

pub invariant_of-self : goal.invariant_of-self
invariant_of-self c =
    let born = subst (λ (ls : List (Lot (Unit {0}))). AreBornBefore c.args.line ls) (sym c.self.view_is) c.requires in
    subst (λ (ls : List (Lot (Unit {0}))). AreKeptWell ls) (sym c.end.ensures.lots) (well_ended c.args.line (c.args.id ∷ []) c.self.inside.list.lots born c.self.invariant)

pub returns-clause-well : goal.returns-clause-well
returns-clause-well c =
    let born = subst (λ (ls : List (Lot (Unit {0}))). AreBornBefore c.args.line ls) (sym c.self.view_is) c.requires in
    subst (λ (ls : List (Lot (Unit {0}))). AreKeptWell ls) (sym c.end.ensures.lots) (well_ended c.args.line (c.args.id ∷ []) c.self.inside.list.lots born c.self.invariant)
