-- Lots at their places, and those of them that may meet a form, taken one after the other.
use Rattle.std.proofs.Common.{◌≡◌, ℕ, zero, suc, ◌+◌, ◌<◌, ◌≤◌, ◌==◌, Bool, true, false, not, cond, List, [], ◌∷◌, ◌++◌, map, filter, length, drop, get_or, Some, slice_get, sym, ap, ◌∙◌, subst, append_assoc}
use Rattle.std.specs.Prelude.{option_map}
use Rattle.std.specs.List.{AllByRecursion}
use Rattle.std.specs.Option.{option_to_list}
use Rattle.std.proofs.lemmas.List.{length-map}
use Rattle.std.proofs.lemmas.List.Sums.{sum_by-cons}
use Rattle.std.proofs.lemmas.Option.{slice_get-map, slice_get_read}
use Rattle.rp_geometry.specs.sets.Shape.{Part}
use Rattle.rp_geometry.specs.parts.Parts.{most_parts}
use Rattle.rp_model.specs.states.State.{Lot}
use Rattle.rp_model.specs.commands.Parts.{count_pairs, lot_parts}
use Rattle.rp_proximity.specs.declared.reach.Reach.{Reach}
use Rattle.rp_proximity.specs.Near.{may_meet, pairs_with, is_near, lots_at}
use Rattle.rp_proximity.proofs.Places.{lots_left}

-- ---- one lot

-- the parts of an item
pub item_parts : (lots : List (Lot (Unit {0}))) (k : ℕ) (l : Lot (Unit {0})) (ps : List Part) → slice_get lots k ≡ Some l → option_map (λ m. m.parts) (slice_get lots k) ≡ Some ps → l.parts ≡ ps
item_parts lots k l ps at e = let f : Some l.parts ≡ Some ps = sym (ap (option_map (λ (m : Lot (Unit {0})). m.parts)) at) ∙ e in cc

-- the lot at a place has few parts
pub short_at : (lots : List (Lot (Unit {0}))) → AllByRecursion (λ l. length l.parts ≤ most_parts) lots → (k : ℕ) (ps : List Part) → option_map (λ l. l.parts) (slice_get lots k) ≡ Some ps → length ps ≤ most_parts
short_at [] h k ps e = absurd (cc)
short_at (l ∷ ls) h zero ps e = let f : l.parts ≡ ps = cc in subst (λ (qs : List Part). length qs ≤ most_parts) f h.0
short_at (l ∷ ls) h (suc k) ps e = short_at ls h.1 k ps e

-- the form at a place is that of the lot there
pub form_there : {F : Type 0} (parts_of : F → List Part) (lots : List (Lot (Unit {0}))) (forms : List F) (k : ℕ) (f : F) → map parts_of forms ≡ lot_parts lots → k < length lots → f ≡ get_or forms k f → option_map (λ l. l.parts) (slice_get lots k) ≡ Some (parts_of f)
form_there parts_of lots forms k f e within is =
    let many : length lots ≡ length forms = sym (length-map lots (λ (l : Lot (Unit {0})). l.parts)) ∙ sym (ap length e) ∙ length-map forms parts_of in
    sym (slice_get-map (λ (l : Lot (Unit {0})). l.parts) lots k)
    ∙ ap (λ (lists : List (List Part)). slice_get lists k) (sym e)
    ∙ slice_get-map parts_of forms k
    ∙ ap (option_map parts_of) (slice_get_read forms (length lots) k f many within is)

-- ---- several

-- the lots at some places, with one more
lots_more : (lots : List (Lot (Unit {0}))) (ks : List ℕ) (k : ℕ) (l : Lot (Unit {0})) (ls : List (Lot (Unit {0}))) → slice_get lots k ≡ Some l → lots_at lots (ks ++ k ∷ []) ++ ls ≡ lots_at lots ks ++ l ∷ ls
lots_more lots [] k l ls at = ap (λ o. (option_to_list o ++ []) ++ ls) at
lots_more lots (j ∷ ks) k l ls at =
    append_assoc (option_to_list (slice_get lots j)) (lots_at lots (ks ++ k ∷ [])) ls
    ∙ ap (λ ms. option_to_list (slice_get lots j) ++ ms) (lots_more lots ks k l ls at)
    ∙ sym (append_assoc (option_to_list (slice_get lots j)) (lots_at lots ks) (l ∷ ls))

module _ (r : Reach) (ps : List Part) (lots : List (Lot (Unit {0}))) (places : List ℕ) (i k : ℕ) (l : Lot (Unit {0})) (qs : List Part) (here : i < length places) (is : k ≡ get_or places i 0) (at : slice_get lots k ≡ Some l) (own : l.parts ≡ qs) where
  -- the lots behind it
  abbrev behind : List (Lot (Unit {0}))
  behind = lots_at lots (drop (i + 1) places)

  -- how many pairs it has
  abbrev count : List Part → ℕ
  count ms = count_pairs (may_meet r) ps ms

  -- the pairs that are left are its own and those of the lots behind it
  pub pairs_left : pairs_with r ps (lots_at lots (drop i places)) ≡ count qs + pairs_with r ps behind
  pairs_left = ap (pairs_with r ps) (lots_left lots places i k l here is at) ∙ sum_by-cons count l.parts (lot_parts behind) ∙ ap (λ (ms : List Part). count ms + pairs_with r ps behind) own

  -- it is the first of the near ones that are left, or not one of them
  near_left : filter (is_near r ps) (lots_at lots (drop i places)) ≡ cond (not (count qs == 0)) (l ∷ filter (is_near r ps) behind) (filter (is_near r ps) behind)
  near_left =
      ap (filter (is_near r ps)) (lots_left lots places i k l here is at)
      ∙ ap (λ (ms : List Part). cond (not (count ms == 0)) (l ∷ filter (is_near r ps) behind) (filter (is_near r ps) behind)) own

  -- it is taken
  pub near_taken : (ks new : List ℕ) (all : List (Lot (Unit {0}))) → (count qs == 0) ≡ false → new ≡ ks ++ k ∷ [] → lots_at lots ks ++ filter (is_near r ps) (lots_at lots (drop i places)) ≡ all → lots_at lots new ++ filter (is_near r ps) behind ≡ all
  near_taken ks new all some more h =
      ap (λ (js : List ℕ). lots_at lots js ++ filter (is_near r ps) behind) more
      ∙ lots_more lots ks k l (filter (is_near r ps) behind) at
      ∙ sym (ap (λ (ms : List (Lot (Unit {0}))). lots_at lots ks ++ ms) (near_left ∙ ap (λ (b : Bool). cond (not b) (l ∷ filter (is_near r ps) behind) (filter (is_near r ps) behind)) some))
      ∙ h

  -- it is passed over
  pub near_passed : (ks new : List ℕ) (all : List (Lot (Unit {0}))) → (count qs == 0) ≡ true → new ≡ ks → lots_at lots ks ++ filter (is_near r ps) (lots_at lots (drop i places)) ≡ all → lots_at lots new ++ filter (is_near r ps) behind ≡ all
  near_passed ks new all none same h =
      ap (λ (js : List ℕ). lots_at lots js ++ filter (is_near r ps) behind) same
      ∙ sym (ap (λ (ms : List (Lot (Unit {0}))). lots_at lots ks ++ ms) (near_left ∙ ap (λ (b : Bool). cond (not b) (l ∷ filter (is_near r ps) behind) (filter (is_near r ps) behind)) none))
      ∙ h
