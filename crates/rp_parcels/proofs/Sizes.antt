-- Sound lots are few, and the parts of each are a region.
use Rattle.std.proofs.Common.{◌≡◌, ℕ, ◌≤◌, Bool, true, false, List, [], ◌∷◌, map, length, Option, Some, ap, ◌∙◌, subst, arith}
use Rattle.std.proofs.lemmas.List.{length-map}
use Rattle.std.specs.List.{AllByRecursion}
use Rattle.rp_geometry.specs.sets.Shape.{Shape, Part, shape_of_parts}
use Rattle.rp_geometry.specs.parts.Parts.{AreOf, IsPart, IsRegion, most_parts}
use Rattle.rp_algebra.proofs.Listed.{all_map}
use Rattle.rp_algebra.proofs.Lists.{all_filter}
use Rattle.rp_language.specs.Name.{Label, label_eq}
use Rattle.rp_semantics.specs.Form.{parts_or_none}
use Rattle.rp_model.specs.states.State.{Lot, lot_of_parts, bare_lot, is_live, live_lots, lot_with_id, parts_of_lot, state_of_parts}
use Rattle.rp_model.specs.commands.Subdivide.{FormedChild}
use Rattle.rp_model.specs.commands.Parts.{parts_with_id}
use Rattle.rp_states.proofs.Listing.{all_mapped, all_unmapped}
use Rattle.rp_states.proofs.Plain.{kept_images}
use Rattle.rp_geometry.proofs.Kept.{part_is_checked}
use Rattle.rp_lists.specs.Listed.{Listed}
use Rattle.rp_history.specs.Lots.{lots_in}
use Rattle.rp_subdivide.specs.declared.child.Child.{Child as MadeChild}
use Rattle.rp_subdivide.specs.Children.{formed_child, formed_children, IsShort}
use Rattle.rp_store.specs.Kept.{AreFew}
use Rattle.rp_parcels.specs.Kept.{AreSound}
use Rattle.rp_register_state.proofs.Applied.{sound_are_few}
use Rattle.rp_register_state.proofs.States.{sound_where_checked}

-- sound lots can be kept
pub sound_few : (lots : List (Lot (Unit {0}))) → AreSound lots → AreFew lots
sound_few lots h = sound_are_few (lots_in [] lots) (sound_where_checked IsPart part_is_checked (state_of_parts (lots_in [] lots)) h)

-- the parts of each sound lot are a region
pub all_regions : (lots : List (Lot (Unit {0}))) → AreSound lots → AllByRecursion (λ l. IsRegion l.parts) lots
all_regions lots h = all_map (λ (l : Lot (Unit {0})). AreOf IsPart (shape_of_parts l.parts) l.parts) (λ (l : Lot (Unit {0})). IsRegion l.parts) (λ l of. of.all) lots (all_unmapped (λ (l : Lot Shape). AreOf IsPart l.set l.parts) lot_of_parts lots h.lots_keep_parts)

-- so each has few
pub all_short : (lots : List (Lot (Unit {0}))) → AreSound lots → AllByRecursion (λ l. length l.parts ≤ most_parts) lots
all_short lots h = all_map (λ (l : Lot (Unit {0})). IsRegion l.parts) (λ (l : Lot (Unit {0})). length l.parts ≤ most_parts) (λ l of. of.few) lots (all_regions lots h)

-- those of the live ones
pub live_regions : (lots : List (Lot (Unit {0}))) → AreSound lots → AllByRecursion (λ l. IsRegion l.parts) (live_lots lots)
live_regions lots h = all_filter (λ (l : Lot (Unit {0})). IsRegion l.parts) is_live lots (all_regions lots h)

-- so are those of a live lot
pub region_with_id : (lots : List (Lot (Unit {0}))) (x : Label) → AreSound lots → IsRegion (parts_with_id (lots_in [] lots) x)
region_with_id lots x h = by (live_lots lots) (live_regions lots h)
  where
    by : (ls : List (Lot (Unit {0}))) → AllByRecursion (λ l. IsRegion l.parts) ls → IsRegion (parts_or_none (parts_of_lot (lot_with_id x ls)))
    by [] all = record { each = tt; few = omega arith }
    by (l ∷ ls) all = first (label_eq x l.id) (by ls all.1)
      where
        first : (b : Bool) → IsRegion (parts_or_none (parts_of_lot (lot_with_id x ls))) → IsRegion (parts_or_none (parts_of_lot (elim b as (λ _. Option (Lot (Unit {0}))) [ true ↦ Some l | false ↦ lot_with_id x ls ])))
        first true later = all.0
        first false later = later

-- so are those of each child
module _ (made : Listed (MadeChild (List Part))) (cs : List FormedChild) (each : formed_children (λ form. form) made ≡ cs) where
  pub children_regions : AllByRecursion (λ c. IsRegion c.form) made.items → AllByRecursion (λ c. IsRegion c.parts) cs
  children_regions h = subst (AllByRecursion (λ (c : FormedChild). IsRegion c.parts)) each (all_mapped (λ (c : FormedChild). IsRegion c.parts) (formed_child (λ form. form)) made.items h)

  -- they are as many
  pub children_few : (n : ℕ) → length cs ≤ n → length made.items ≤ n
  children_few n h = let a = ap (length {A = FormedChild}) each in let b = length-map made.items (formed_child (λ (form : List Part). form)) in omega (arith, a, b, h)

-- each has few
pub children_short : (made : Listed (MadeChild (List Part))) → AllByRecursion (λ c. IsRegion c.form) made.items → AllByRecursion (IsShort (λ form. form)) made.items
children_short made h = all_map (λ (c : MadeChild (List Part)). IsRegion c.form) (λ (c : MadeChild (List Part)). length c.form ≤ most_parts) (λ c of. of.few) made.items h

-- the live ones are as many without their parts
pub live_bare : (lots : List (Lot (Unit {0}))) → length (live_lots (map bare_lot lots)) ≡ length (live_lots lots)
live_bare lots = ap length (kept_images bare_lot is_live lots) ∙ length-map (live_lots lots) bare_lot
