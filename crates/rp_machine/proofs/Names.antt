-- What names and lots stand for in a sound state.
use Rattle.std.proofs.Common.{Bool, true, false, List, [], ◌∷◌, Option, Some, None}
use Rattle.std.specs.Prelude.{IfSome, option_map}
use Rattle.std.specs.List.{AllByRecursion}
use Rattle.rp_algebra.proofs.Listed.{all_map}
use Rattle.rp_algebra.proofs.Lists.{all_filter}
use Rattle.rp_geometry.specs.sets.Shape.{Shape, Part, shape_of_parts}
use Rattle.rp_geometry.specs.parts.Parts.{IsPart, IsRegion, AreOf}
use Rattle.rp_language.specs.Name.{Label, label_eq}
use Rattle.rp_semantics.specs.FormLaws.{Agree, MeaningsAgree}
use Rattle.rp_model.specs.states.State.{Kept, Lot, PlainState, kept_of_parts, lot_of_parts, state_of_parts, parts_in, is_live, live_lots, live_lot, lot_with_id, kept_named, parts_of_kept, parts_of_lot}
use Rattle.rp_model.specs.states.Sound.{IsSound}
use Rattle.rp_model.specs.commands.Parts.{shapes_of_parts}
use Rattle.rp_states.proofs.Listing.{all_unmapped}

-- a region agrees with the shape of its parts
region_agrees : (o : Option (List Part)) → IfSome o IsRegion → Agree IsPart o (option_map shape_of_parts o)
region_agrees None h = tt
region_agrees (Some ps) h = record { all = h; members = ((λ p m. m), λ p m. m) }

-- what is kept under a name is a region
region_found : (x : Label) (ks : List (Kept (Unit {0}))) → AllByRecursion (λ k. IsRegion k.parts) ks → IfSome (parts_of_kept (kept_named x ks)) IsRegion
region_found x [] h = tt
region_found x (k ∷ ks) h = by (label_eq x k.name) (region_found x ks h.1)
  where
    by : (b : Bool) → IfSome (parts_of_kept (kept_named x ks)) IsRegion → IfSome (parts_of_kept (elim b as (λ _. Option (Kept (Unit {0}))) [ true ↦ Some k | false ↦ kept_named x ks ])) IsRegion
    by true later = h.0
    by false later = later

-- so is what a lot has
lot_found : (x : Label) (ls : List (Lot (Unit {0}))) → AllByRecursion (λ l. IsRegion l.parts) ls → IfSome (parts_of_lot (lot_with_id x ls)) IsRegion
lot_found x [] h = tt
lot_found x (l ∷ ls) h = by (label_eq x l.id) (lot_found x ls h.1)
  where
    by : (b : Bool) → IfSome (parts_of_lot (lot_with_id x ls)) IsRegion → IfSome (parts_of_lot (elim b as (λ _. Option (Lot (Unit {0}))) [ true ↦ Some l | false ↦ lot_with_id x ls ])) IsRegion
    by true later = h.0
    by false later = later

-- in a sound state names and lots stand for regions, and these have the members of their shapes
pub regions_agree : (s : PlainState) → IsSound (state_of_parts s) → MeaningsAgree IsPart (parts_in s) (shapes_of_parts (parts_in s))
regions_agree s sound =
    let named = all_map (λ (k : Kept (Unit {0})). AreOf IsPart (shape_of_parts k.parts) k.parts) (λ (k : Kept (Unit {0})). IsRegion k.parts) (λ k of. of.all) s.names (all_unmapped (λ (k : Kept Shape). AreOf IsPart k.set k.parts) kept_of_parts s.names sound.names_keep_parts) in
    let lots = all_map (λ (l : Lot (Unit {0})). AreOf IsPart (shape_of_parts l.parts) l.parts) (λ (l : Lot (Unit {0})). IsRegion l.parts) (λ l of. of.all) s.lots (all_unmapped (λ (l : Lot Shape). AreOf IsPart l.set l.parts) lot_of_parts s.lots sound.lots_keep_parts) in
    record {
      names = λ x. region_agrees (parts_of_kept (kept_named x s.names)) (region_found x s.names named);
      lots = λ x. region_agrees (parts_of_lot (live_lot x s.lots)) (lot_found x (live_lots s.lots) (all_filter (λ (l : Lot (Unit {0})). IsRegion l.parts) is_live s.lots lots));
    }
