-- Lots at their places, one by one.
use Rattle.std.proofs.Common.{◌≡◌, ℕ, List, [], ◌∷◌, ◌++◌, Option, Some, None, slice_get, ap, ◌∙◌}
use Rattle.std.specs.Prelude.{option_map}
use Rattle.std.specs.Option.{option_to_list}
use Rattle.std.proofs.lemmas.Option.{get_or_from_slice_get, slice_get-map}
use Rattle.rp_language.specs.Name.{Label}
use Rattle.rp_model.specs.states.State.{Lot}
use Rattle.rp_model.specs.commands.Parts.{lot_parts}
use Rattle.rp_proximity.specs.Near.{lots_at}
use Rattle.rp_contacts.specs.Meets.{parts_at, id_at}

module _ (lots : List (Lot (Unit {0}))) (k : ℕ) (l : Lot (Unit {0})) (at : slice_get lots k ≡ Some l) where
  -- the parts at a place
  pub parts_there : parts_at lots k ≡ l.parts
  parts_there = get_or_from_slice_get (lot_parts lots) k l.parts [] (slice_get-map (λ (m : Lot (Unit {0})). m.parts) lots k ∙ ap (option_map (λ (m : Lot (Unit {0})). m.parts)) at)

  -- the id at a place
  pub id_there : id_at lots k ≡ l.id
  id_there = ap (λ (o : Option (Lot (Unit {0}))). elim o as (λ _. Label) [ None ↦ [] | Some m ↦ m.id ]) at

  -- the lots at places, of which it is the first
  pub first_there : (ks : List ℕ) → lots_at lots (k ∷ ks) ≡ l ∷ lots_at lots ks
  first_there ks = ap (λ (o : Option (Lot (Unit {0}))). option_to_list o ++ lots_at lots ks) at
