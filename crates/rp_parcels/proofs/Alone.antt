-- The one live lot of a layer that has a point.
use Rattle.std.proofs.Common.{◌≡◌, Bool, true, false, ◌&&◌, ◌||◌, List, [], ◌∷◌, Option, Some, None, refl, sym, ap, ◌∙◌, subst}
use Rattle.std.specs.Prelude.{IsTrue, ◌↔◌}
use Rattle.std.specs.List.{AllByRecursion}
use Rattle.rp_algebra.proofs.Listed.{all_map}
use Rattle.rp_algebra.proofs.Lists.{all_both}
use Rattle.rp_geometry.specs.Geometry.{RationalPoint, IsPoint}
use Rattle.rp_geometry.specs.sets.Shape.{Shape, shape_of_parts}
use Rattle.rp_geometry.specs.sets.Sets.{Overlaps}
use Rattle.rp_language.specs.Name.{Label, label_eq}
use Rattle.rp_model.specs.states.State.{Lot, is_live, live_lots, lots_of_layer, lot_of_parts}
use Rattle.rp_model.specs.states.Sound.{Pairwise}
use Rattle.rp_model.specs.commands.Verdict.{Verdict}
use Rattle.rp_model.specs.commands.At.{owner_line}
use Rattle.rp_model.specs.commands.Parts.{is_in_parts}
use Rattle.rp_row_soundness.proofs.Points.{in_parts_is_member}
use Rattle.rp_states.proofs.Labels.{label_is, label_same}
use Rattle.rp_states.proofs.Listing.{all_passed, all_true, pairs_kept, pairs_unmapped}
use Rattle.rp_states.proofs.Plain.{kept_images}
use Rattle.rp_proximity.specs.There.{owner_verdict}
use Rattle.rp_parcels.specs.Kept.{AreSound}
use Rattle.rp_parcels.specs.Points.{has_point}

-- ---- live lots are apart

-- two lots of one layer share no point
abbrev pub ApartLots : Lot (Unit {0}) → Lot (Unit {0}) → Type 0
ApartLots l k = l.layer ≡ k.layer → ¬ Overlaps (shape_of_parts l.parts) (shape_of_parts k.parts)

-- each two sound live lots
pub live_apart : (lots : List (Lot (Unit {0}))) → AreSound lots → Pairwise ApartLots (live_lots lots)
live_apart lots h = pairs_unmapped (λ (l k : Lot Shape). l.layer ≡ k.layer → ¬ Overlaps l.set k.set) lot_of_parts (live_lots lots)
    (subst (Pairwise (λ (l k : Lot Shape). l.layer ≡ k.layer → ¬ Overlaps l.set k.set)) (kept_images lot_of_parts is_live lots) h.live_lots_apart)

module _ (p : RationalPoint) (is_point : IsPoint p) where
  -- at most one of two lots has the point
  abbrev pub NotBoth : Lot (Unit {0}) → Lot (Unit {0}) → Type 0
  NotBoth l k = is_in_parts l.parts p ≡ true → is_in_parts k.parts p ≡ true → ⊥

  -- a relation of each two items of a list of which each has a fact
  pairs_with_fact : {A : Type 0} (R S : A → A → Type 0) (P : A → Type 0) → ((x y : A) → P x → P y → R x y → S x y) → (xs : List A) → AllByRecursion P xs → Pairwise R xs → Pairwise S xs
  pairs_with_fact R S P f [] h r = tt
  pairs_with_fact R S P f (x ∷ xs) h r = (all_both P (R x) (S x) (λ y k s. f x y h.0 k s) xs h.1 r.0, pairs_with_fact R S P f xs h.1 r.1)

  -- lots of one layer
  pub layer_not_both : (y : Label) (lots : List (Lot (Unit {0}))) → AreSound lots → Pairwise NotBoth (lots_of_layer y (live_lots lots))
  layer_not_both y lots h =
      pairs_with_fact ApartLots NotBoth (λ l. label_eq l.layer y ≡ true)
      (λ l k e f apart m n. apart (label_is l.layer y e ∙ sym (label_is k.layer y f)) (p, (is_point, sym (in_parts_is_member l.parts p) ∙ m), (is_point, sym (in_parts_is_member k.parts p) ∙ n)))
      (lots_of_layer y (live_lots lots))
      (all_passed (λ (l : Lot (Unit {0})). label_eq l.layer y ≡ true) (λ l. label_eq l.layer y) (live_lots lots) (all_true (λ (l : Lot (Unit {0})). label_eq l.layer y ≡ true → label_eq l.layer y ≡ true) (λ l e. e) (live_lots lots)))
      (pairs_kept ApartLots (λ l. label_eq l.layer y) (live_lots lots) (live_apart lots h))

  -- ---- the owner

  -- the id of the first lot that has the point
  abbrev first_owner : List (Lot (Unit {0})) → Option Label
  first_owner [] = None
  first_owner (l ∷ ls) = elim (is_in_parts l.parts p) [ true ↦ Some l.id | false ↦ first_owner ls ]

  -- as the verdict tells it
  first_told : (ls : List (Lot (Unit {0}))) → owner_line ls p ≡ owner_verdict (first_owner ls)
  first_told [] = refl
  first_told (l ∷ ls) = by (is_in_parts l.parts p) (first_told ls)
    where
      by : (b : Bool) → owner_line ls p ≡ owner_verdict (first_owner ls) → (elim b as (λ _. Verdict) [ true ↦ Verdict.parcel l.id | false ↦ owner_line ls p ]) ≡ owner_verdict (elim b as (λ _. Option Label) [ true ↦ Some l.id | false ↦ first_owner ls ])
      by true later = refl
      by false later = later

  -- the verdict tells the owner
  told_once : (o q : Option Label) → owner_verdict o ≡ owner_verdict q → o ≡ q
  told_once None None e = refl
  told_once None (Some y) e = absurd (cc)
  told_once (Some x) None e = absurd (cc)
  told_once (Some x) (Some y) e = let f : x ≡ y = cc in ap Some f

  -- none of some lots has the point
  none_has : (x : Label) (ls : List (Lot (Unit {0}))) → AllByRecursion (λ k. is_in_parts k.parts p ≡ true → ⊥) ls → has_point ls p x ≡ true → ⊥
  none_has x [] h e = absurd (cc)
  none_has x (k ∷ ls) h e = by (label_eq k.id x) (is_in_parts k.parts p) refl (none_has x ls h.1) e
    where
      by : (a b : Bool) → is_in_parts k.parts p ≡ b → (has_point ls p x ≡ true → ⊥) → ((a && b) || has_point ls p x) ≡ true → ⊥
      by true true f later g = h.0 f
      by true false f later g = later g
      by false b f later g = later g

  -- the first lot that has the point is the only one
  only_first : (ls : List (Lot (Unit {0}))) → Pairwise NotBoth ls → (x : Label) → IsTrue (has_point ls p x) ↔ (first_owner ls ≡ Some x)
  only_first [] h x = ((λ e. absurd (cc)), (λ e. absurd (cc)))
  only_first (l ∷ ls) h x = by (is_in_parts l.parts p) refl (label_eq l.id x) refl (only_first ls h.1 x)
    where
      by : (b : Bool) → is_in_parts l.parts p ≡ b → (a : Bool) → label_eq l.id x ≡ a → (IsTrue (has_point ls p x) ↔ (first_owner ls ≡ Some x)) →
          IsTrue ((a && b) || has_point ls p x) ↔ ((elim b as (λ _. Option Label) [ true ↦ Some l.id | false ↦ first_owner ls ]) ≡ Some x)
      by true f true g later = ((λ e. ap Some (label_is l.id x g)), (λ e. refl))
      by true f false g later = (
        (λ e. absurd (none_has x ls (all_map (NotBoth l) (λ (k : Lot (Unit {0})). is_in_parts k.parts p ≡ true → ⊥) (λ k n. n f) ls h.0) e)),
        (λ e. let same : l.id ≡ x = cc in let is = label_same l.id x same in absurd (cc)),
      )
      by false f true g later = later
      by false f false g later = later

  -- the owner that is told is the only one
  pub only_owner : (ls : List (Lot (Unit {0}))) → Pairwise NotBoth ls → (o : Option Label) → owner_verdict o ≡ owner_line ls p → (x : Label) → IsTrue (has_point ls p x) ↔ (o ≡ Some x)
  only_owner ls h o e = subst (λ (q : Option Label). (x : Label) → IsTrue (has_point ls p x) ↔ (q ≡ Some x)) (sym (told_once o (first_owner ls) (e ∙ first_told ls))) (only_first ls h)
