-- Changes that let lots end and others be born.
use Rattle.std.proofs.Common.{◌≡◌, List, [], ◌∷◌, ◌++◌, length, Result, Ok, Err, refl, ap, sym, subst}
use Rattle.rp_geometry.specs.sets.Shape.{Part}
use Rattle.rp_semantics.specs.Walk.{Outcome}
use Rattle.rp_model.specs.states.State.{NewLot}
use Rattle.rp_model.specs.commands.Reply.{Reply}
use Rattle.rp_model.specs.commands.Parts.{new_lot}
use Rattle.rp_history.specs.declared.lot.Birth.{Birth}
use Rattle.rp_history.specs.Parts.{new_lots}
use Rattle.rp_answer.specs.declared.reply.RowEnd.{RowEnd}
use Rattle.rp_lots.specs.declared.change.Replaced.{Replaced}
use Rattle.rp_lots.specs.declared.change.Change.{Change}
use Rattle.rp_lots.specs.Changes.{Changes, replaced_of, change_of, replacing}

-- the row of one of them
pub replacing_changes : {F W : Type 0} (view : F → List Part) (r : Result (Replaced F) RowEnd) (w : W) (o : Outcome W Reply) → Changes (replaced_of view) r w o → Changes (change_of view) (replacing r) w o
replacing_changes view (Ok x) w o h = h
replacing_changes view (Err e) w o h = h

-- one lot more
pub lots_and_one : (births : List Birth) (lists : List (List Part)) (b : Birth) (ps : List Part) → length births ≡ length lists → new_lots (births ++ b ∷ []) (lists ++ ps ∷ []) ≡ new_lots births lists ++ new_lot b.layer b.id ps b.origins.items ∷ []
lots_and_one [] [] b ps e = refl
lots_and_one [] (qs ∷ lists) b ps e = absurd (cc)
lots_and_one (a ∷ births) [] b ps e = absurd (cc)
lots_and_one (a ∷ births) (qs ∷ lists) b ps e = ap (λ (ls : List (NewLot (Unit {0}))). record { id = a.id; layer = a.layer; set = tt; parts = qs; origins = a.origins.items } ∷ ls) (lots_and_one births lists b ps (cc))

-- a row that goes on to one of them
pub replaced_row : {F W : Type 0} (view : F → List Part) (r : Result (Replaced F) RowEnd) (q : Result (Change F) RowEnd) (w : W) (o p : Outcome W Reply) → q ≡ replacing r → p ≡ o → Changes (replaced_of view) r w o → Changes (change_of view) q w p
replaced_row view r q w o p same e h =
    subst (λ x. Changes (change_of view) x w p) (sym same) (subst (λ x. Changes (change_of view) (replacing r) w x) (sym e) (replacing_changes view r w o h))
