-- The layers of ids.
use Rattle.std.proofs.Common.{◌≡◌, nat_lt, List, [], ◌∷◌, length, Option, None, refl, Some}
use Rattle.std.specs.List.{AllByRecursion}
use Rattle.rp_algebra.proofs.Lists.{all_filter}
use Rattle.rp_language.specs.Name.{Label}
use Rattle.rp_geometry.specs.sets.Shape.{Shape}
use Rattle.rp_model.specs.states.State.{Lot, State, live_lots, layer_with_id, layer_of_first, live_lot, is_live, Change, nothing_changes, name_added, lots_replaced, layer_changed, layer_of_lot}
use Rattle.rp_model.specs.commands.Checks.{refuse_if, and_then, check_new, check_live, check_each, check_repeated, check_layer, check_layers, check_consolidate}
use Rattle.rp_model.specs.commands.Verdict.{too_few}
use Rattle.rp_states.proofs.Labels.{among_all}
use Rattle.rp_model.proofs.Refusals.{neither}
use Rattle.rp_states.proofs.Accepted.{each_of_layer, each_ok}
use Rattle.rp_states.proofs.Looked.{true_of_found, AllOfLayer}
use Rattle.rp_reports.specs.laws.LayerLaws.{IsInLayer}

-- the old lots of an accepted consolidation are of the layer of the first
pub consolidated_of_layer : (s : State) (x : Label) (ids : List Label) → check_consolidate s x ids ≡ None → AllOfLayer s ids (layer_of_first s ids)
consolidated_of_layer s x ids e z among =
    let many = neither (refuse_if (nat_lt (length ids) 2) too_few) (and_then (check_each (check_live s) ids) (and_then (check_repeated [] ids) (and_then (check_layers s ids) (check_new s x)))) e in
    let live = neither (check_each (check_live s) ids) (and_then (check_repeated [] ids) (and_then (check_layers s ids) (check_new s x))) many.1 in
    let alone = neither (check_repeated [] ids) (and_then (check_layers s ids) (check_new s x)) live.1 in
    let layers = neither (check_layers s ids) (check_new s x) alone.1 in
    among_all (λ y. layer_with_id s y ≡ layer_of_first s ids) ids (each_of_layer s (layer_of_first s ids) ids (each_ok (check_layer s (layer_of_first s ids)) ids layers.0)) z among

-- what a change brings is of the layer
abbrev pub ChangeIn : Label → Change Shape → Type 0
ChangeIn y nothing_changes = Unit {0}
ChangeIn y (name_added k) = Unit {0}
ChangeIn y (lots_replaced ids new) = AllByRecursion (λ a. a.layer ≡ y) new
ChangeIn y (layer_changed z) = z ≡ y

module _ (y : Label) (s : State) (i : IsInLayer y s) where
  -- the layer of an id
  pub layer_with_in : (x : Label) → layer_with_id s x ≡ y
  layer_with_in x = by (live_lot x s.lots) refl
    where
      by : (o : Option (Lot Shape)) → live_lot x s.lots ≡ o → layer_of_lot s.layer o ≡ y
      by None e = i.present
      by (Some l) e = true_of_found (λ (k : Lot Shape). k.layer ≡ y) x (live_lots s.lots) l (all_filter (λ (k : Lot Shape). k.layer ≡ y) is_live s.lots i.lots) e

  -- the layer of the first of some ids
  pub layer_of_first_in : (ids : List Label) → layer_of_first s ids ≡ y
  layer_of_first_in [] = i.present
  layer_of_first_in (x ∷ ids) = layer_with_in x
