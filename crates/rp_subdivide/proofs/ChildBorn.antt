-- Children that are born one after the other.
use Rattle.std.proofs.Common.{◌≡◌, List, [], ◌∷◌, ◌++◌, map, length, ap, sym, ◌∙◌}
use Rattle.std.proofs.lemmas.List.{length-map, map-append}
use Rattle.rp_geometry.specs.sets.Shape.{Part}
use Rattle.rp_language.specs.Name.{Label}
use Rattle.rp_model.specs.states.State.{NewLot}
use Rattle.rp_model.specs.commands.Subdivide.{FormedChild}
use Rattle.rp_model.specs.commands.Parts.{new_lot}
use Rattle.rp_history.specs.declared.lot.Birth.{Birth}
use Rattle.rp_history.specs.Parts.{new_lots}
use Rattle.rp_lots.proofs.BornLots.{lots_and_one}
use Rattle.rp_subdivide.specs.declared.child.Child.{Child}
use Rattle.rp_subdivide.specs.Children.{formed_child}

-- one child more
pub child_and_one : {F : Type 0} (view : F → List Part) (layer origin : Label) (births : List Birth) (forms : List F) (cs : List (Child F)) (b : Birth) (c : Child F) → length births ≡ length forms → new_lots births (map view forms) ≡ map (λ d. new_lot layer d.id d.parts (origin ∷ [])) (map (formed_child view) cs)
    → (b.id ≡ c.id) × (b.layer ≡ layer) × (b.origins.items ≡ origin ∷ []) → new_lots (births ++ b ∷ []) (map view (forms ++ c.form ∷ [])) ≡ map (λ d. new_lot layer d.id d.parts (origin ∷ [])) (map (formed_child view) (cs ++ c ∷ []))
child_and_one {F} view layer origin births forms cs b c each born is =
    ap (new_lots births-and) (map-append view forms (c.form ∷ []))
    ∙ lots_and_one births (map view forms) b (view c.form) (each ∙ sym (length-map forms view))
    ∙ ap (λ ls. ls ++ new_lot b.layer b.id (view c.form) b.origins.items ∷ []) born
    ∙ ap (λ (l : NewLot (Unit {0})). map made (map (formed_child view) cs) ++ l ∷ []) one
    ∙ sym (ap (map made) (map-append (formed_child view) cs (c ∷ [])) ∙ map-append made (map (formed_child view) cs) (formed_child view c ∷ []))
  where
    births-and : List Birth
    births-and = births ++ b ∷ []

    made : FormedChild → NewLot (Unit {0})
    made d = new_lot layer d.id d.parts (origin ∷ [])

    one : new_lot b.layer b.id (view c.form) b.origins.items ≡ new_lot layer c.id (view c.form) (origin ∷ [])
    one = λ i. new_lot (is.1 i) (is.0 i) (view c.form) (is.2 i)
